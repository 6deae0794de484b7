use Rattle.std.proofs.Common.{◌≡◌, ℕ, [], Some, length, map, replicate}
use Rattle.std.specs.Prelude.{vec_capacity}
use Rattle.std.specs.List.{slice_get}
use Rattle.mu_engine.specs.declared.seat.Seat.{Seat}
use Rattle.mu_engine.specs.Live.{free}
use Rattle.mu_engine.specs.Seats.{Sits, hold_of}
use Rattle.mu_engine.proofs.seat.seats.Given as goal

abbrev pub invariant-loop-id : goal.invariant-loop-id
invariant-loop-id l = record {
  room : vec_capacity l.seats ≡ l.job.config.replicas;
  count : length l.seats.items ≡ l.id;
  each : (r : ℕ) (seat : Seat) → slice_get l.seats.items r ≡ Some seat → Sits l.job.config r [] seat;
  free : map hold_of l.seats.items ≡ replicate l.id free;
}
