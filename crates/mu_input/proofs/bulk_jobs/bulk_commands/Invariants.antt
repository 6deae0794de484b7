use Rattle.std.proofs.Common.{◌≡◌}
use Rattle.mu_input.specs.Bulk.{bulk_commands}
use Rattle.mu_input.proofs.bulk_jobs.bulk_commands.Given as goal

abbrev pub invariant-loop-index : goal.invariant-loop-index
invariant-loop-index l = l.commands.items ≡ bulk_commands l.index
