-- The replies over the logs so far, and those over the logs that are left, are those over all.
use Rattle.std.proofs.Common.{◌≡◌, ◌++◌, drop, map}
use Rattle.kv_store.specs.Tables.{replies}
use Rattle.mu_outcome.specs.Entries.{commands_in}
use Rattle.mu_telling.proofs.replies.replies_over_each.Given as goal

abbrev pub invariant-loop-log : goal.invariant-loop-log
invariant-loop-log l =
    l.all.items ++ map (λ log. replies (commands_in l.job log)) (drop l.log-index l.logs) ≡ map (λ log. replies (commands_in l.job log)) l.logs
