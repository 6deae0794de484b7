use Rattle.std.proofs.Common.{◌≡◌, ℕ, List, Some, ◌++◌, length}
use Rattle.std.specs.List.{slice_get}
use Rattle.std.specs.Vec.Iter.{into_iter_items, into_iter_len}
use Rattle.mu_model.specs.declared.event.Event.{Event}
use Rattle.shared_steps.specs.Rule.{entry, entry_of}
use Rattle.shared_fabric.specs.Gathering.{PortValue}
use Rattle.shared_fabric.proofs.shared.take_in.Given as goal

abbrev pub invariant-loop-port : goal.invariant-loop-port
invariant-loop-port l =
    (goal.iterator-loop-port).can_next l.port-iterator × (goal.iterator-loop-port).is_finite l.port-iterator
    × (l.fn.ports.items ≡ l.yielded ++ into_iter_items l.port-iterator)
    × (l.root.table ≡ l.initial.root.table)
    × (l.root.config ≡ l.initial.root.config)
    × ((r : ℕ) (p : PortValue) → slice_get l.yielded r ≡ Some p → (seen : List (Event × ℕ)) × (entry_of r l.root.entries ≡ Some (entry r p.part seen)))
    × (into_iter_len l.port-iterator ≡ length (into_iter_items l.port-iterator))
