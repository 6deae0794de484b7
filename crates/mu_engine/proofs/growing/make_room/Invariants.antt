use Rattle.std.proofs.Common.{◌≡◌, ◌<◌, ℕ, Some, length, map}
use Rattle.std.specs.List.{slice_get}
use Rattle.mu_node.specs.Growing.{HasRoomForRow}
use Rattle.mu_engine.specs.declared.seat.Seat.{Seat}
use Rattle.mu_engine.specs.Seats.{AreSeated, hold_of}
use Rattle.mu_engine.proofs.growing.make_room.Given as goal

abbrev pub invariant-loop-k : goal.invariant-loop-k
invariant-loop-k l = record {
  count : length l.seats ≡ length l.fn.seats;
  seated : AreSeated l._port.config l._port.events l.seats;
  room : (r : ℕ) (seat : Seat) → r < l.k → slice_get l.seats r ≡ Some seat → HasRoomForRow l._port.config seat.node;
  holds : map hold_of l.seats ≡ map hold_of l.fn.seats;
}
