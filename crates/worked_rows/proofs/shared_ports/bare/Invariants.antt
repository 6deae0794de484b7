use Rattle.std.proofs.Common.{◌≡◌, ◌++◌, length}
use Rattle.std.specs.Vec.Iter.{into_iter_items, into_iter_len}
use Rattle.worked_rows.proofs.shared_ports.bare.Given as goal

abbrev pub invariant-loop-one : goal.invariant-loop-one
invariant-loop-one l =
    (goal.iterator-loop-one).can_next l.one-iterator × (goal.iterator-loop-one).is_finite l.one-iterator
    × (l.fn.ports.items ≡ l.yielded ++ into_iter_items l.one-iterator)
    × (into_iter_len l.one-iterator ≡ length (into_iter_items l.one-iterator))
    × (l.list.items ≡ l.yielded)
