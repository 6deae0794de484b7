use Rattle.std.proofs.Common.{◌≡◌, ◌+◌, ◌<◌, ◌≤◌, ◌∷◌, [], ℕ, Some, length, map}
use Rattle.std.specs.List.{slice_get}
use Rattle.mu_model.specs.Growing.{with_more}
use Rattle.mu_engine.specs.declared.seat.Seat.{Seat}
use Rattle.mu_engine.specs.Growing.{ArePairs, growth_of}
use Rattle.mu_engine.specs.Seats.{Sits, hold_of}
use Rattle.mu_engine.proofs.growing.grow.Given as goal

abbrev pub ghost-grow : goal.ghost-grow
ghost-grow a = growth_of a._port.now.config a._row.now a.self.now.node.id a._port.now.events

abbrev pub invariant-loop-k : goal.invariant-loop-k
invariant-loop-k l = record {
  whole : length l.seats ≡ length l.fn.seats;
  count : length l.copies.items + l.k ≡ length l.fn.seats;
  pairs : ArePairs (with_more l.port.config (l.row ∷ [])) l.copies.items;
  done : (r : ℕ) (seat : Seat) → r < l.k → slice_get l.seats r ≡ Some seat → Sits (with_more l.port.config (l.row ∷ [])) r l.port.events seat;
  ahead : (r : ℕ) → l.k ≤ r → slice_get l.seats r ≡ slice_get l.fn.seats r;
  holds : map hold_of l.seats ≡ map hold_of l.fn.seats;
}
