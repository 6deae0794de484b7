use Rattle.std.proofs.Common.{ℕ, ◌<◌, ◌≡◌, ◌≤◌, true}
use Rattle.std.specs.List.{slice_get}
use Rattle.mu_knowledge.specs.KnownLog.{is_set}
use Rattle.mu_knowledge.proofs.filled_log.first_unmarked.Given as goal

abbrev pub invariant-loop-at : goal.invariant-loop-at
invariant-loop-at l = (j : ℕ) → l.from ≤ j → j < l.at → is_set (slice_get l.marks j) ≡ true
