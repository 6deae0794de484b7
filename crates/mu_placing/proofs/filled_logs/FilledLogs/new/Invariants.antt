use Rattle.std.proofs.Common.{ℕ, ◌≡◌, [], length, vec_capacity}
use Rattle.mu_placing.specs.FilledLogs.{HoldsCoverages}
use Rattle.mu_placing.proofs.filled_logs.FilledLogs.new.Given as goal

abbrev pub invariant-loop-id : goal.invariant-loop-id
invariant-loop-id l = record { count : length l.regions.items ≡ l.id; room : vec_capacity l.regions ≡ 7; each : (r : ℕ) → HoldsCoverages l.config r [] l.regions.items }
