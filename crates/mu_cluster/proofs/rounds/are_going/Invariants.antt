use Rattle.std.proofs.Common.{◌≡◌, ◌<◌, ℕ, Some, true}
use Rattle.std.specs.List.{slice_get}
use Rattle.mu_cluster.specs.declared.rounds.Seat.{Seat}
use Rattle.mu_cluster.proofs.rounds.are_going.Given as goal

abbrev pub invariant-loop-seat : goal.invariant-loop-seat
invariant-loop-seat l = (r : ℕ) (seat : Seat) → slice_get l.seats r ≡ Some seat → r < l.seat-index → seat.ended ≡ true
