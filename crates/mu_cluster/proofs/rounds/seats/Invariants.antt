use Rattle.std.proofs.Common.{◌≡◌, ℕ, [], Some, length}
use Rattle.std.specs.Prelude.{vec_capacity}
use Rattle.std.specs.List.{slice_get}
use Rattle.mu_cluster.specs.declared.rounds.Seat.{Seat}
use Rattle.mu_cluster.specs.Rounds.{Sits}
use Rattle.mu_cluster.proofs.rounds.seats.Given as goal

abbrev pub invariant-loop-id : goal.invariant-loop-id
invariant-loop-id l = record {
  room : vec_capacity l.seats ≡ l.job.config.replicas;
  count : length l.seats.items ≡ l.id;
  each : (r : ℕ) (seat : Seat) → slice_get l.seats.items r ≡ Some seat → Sits l.kind l.job.config l.job.script r [] seat 0;
}
