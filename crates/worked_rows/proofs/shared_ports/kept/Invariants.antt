use Rattle.std.proofs.Common.{◌≡◌, ◌++◌, length}
use Rattle.std.specs.Vec.Iter.{into_iter_items, into_iter_len}
use Rattle.worked_rows.proofs.shared_ports.kept.Given as goal

abbrev pub invariant-loop-port : goal.invariant-loop-port
invariant-loop-port l =
    (goal.iterator-loop-port).can_next l.port-iterator × (goal.iterator-loop-port).is_finite l.port-iterator
    × (l.fn.ports.items ≡ l.yielded ++ into_iter_items l.port-iterator)
    × (into_iter_len l.port-iterator ≡ length (into_iter_items l.port-iterator))
    × (l.list.items ≡ l.yielded)
