use Rattle.std.proofs.Common.{true, ◌≡◌, ◌+◌, ℕ, List, length}
use Rattle.std.specs.List.{slice_get}
use Rattle.std.specs.Vec.Iter.{into_iter_items}
use Rattle.mu_model.specs.declared.event.Event.{Event}
use Rattle.mu_model.specs.Legal.{IsLegal}
use Rattle.mu_model.specs.Parts.{HasParts}
use Rattle.mu_cluster.specs.Lists.{HoldsLists}
use Rattle.mu_cluster.proofs.leaving.left_by.Given as goal

abbrev pub invariant-loop-node : goal.invariant-loop-node
invariant-loop-node l = record {
  rest : (r : ℕ) → slice_get (into_iter_items l.node-iterator) r ≡ slice_get l.fn.nodes.items (length l.yielded + r);
  count : length l.yielded + length (into_iter_items l.node-iterator) ≡ length l.fn.nodes.items;
  holds : (events : List Event) → IsLegal l._job.config events → HasParts l._job.config events l._gathered.parts → HoldsLists true l._job.config l._job.script events (length l.yielded) l.lists;
}
