use Rattle.std.proofs.Common.{ℕ, ◌<◌, ◌≡◌, ◌≤◌, true}
use Rattle.mu_placing.specs.FilledLogs.{KnowingAll, has_known}
use Rattle.mu_placing.proofs.filled_logs.first_behind.Given as goal

abbrev pub invariant-loop-at : goal.invariant-loop-at
invariant-loop-at l = KnowingAll l.values l.landings (λ c r mine. (j : ℕ) → l.from ≤ j → j < l.at → has_known c r l.p mine j ≡ true)
