use Rattle.std.proofs.Common.{◌≡◌, ◌+◌, ℕ, length}
use Rattle.std.specs.List.{slice_get}
use Rattle.std.specs.Vec.Iter.{into_iter_items}
use Rattle.mu_node.specs.Due.{is_eager}
use Rattle.mu_cluster.specs.Lists.{HoldsLists}
use Rattle.mu_cluster.proofs.lists.filled.Given as goal

abbrev pub invariant-loop-seat : goal.invariant-loop-seat
invariant-loop-seat l = record {
  rest : (r : ℕ) → slice_get (into_iter_items l.seat-iterator) r ≡ slice_get l.fn.seats.items (length l.yielded + r);
  count : length l.yielded + length (into_iter_items l.seat-iterator) ≡ length l.fn.seats.items;
  holds : HoldsLists (is_eager l.fn._kind) l._job.config l._job.script l._order.events (length l.yielded) l.lists;
}
