use Rattle.std.proofs.Common.{◌≡◌, ◌++◌, length, map}
use Rattle.std.specs.Prelude.{All, vec_capacity, vec_len}
use Rattle.std.specs.Vec.Iter.{into_iter_items, into_iter_len}
use Rattle.mu_cluster.specs.Branches.{Starts}
use Rattle.mu_cluster.proofs.branch.branches.Given as goal

abbrev pub invariant-loop-port : goal.invariant-loop-port
invariant-loop-port l =
    (goal.iterator-loop-port).can_next l.port-iterator × (goal.iterator-loop-port).is_finite l.port-iterator
    × (l.fn.ports.items ≡ l.yielded ++ into_iter_items l.port-iterator)
    × (into_iter_len l.port-iterator ≡ length (into_iter_items l.port-iterator))
    × All (Starts l.job.script) l.branches.items
    × (map (λ b. b.port) l.branches.items ≡ l.yielded)
    × (length l.branches.items ≡ length l.yielded)
    × (vec_capacity l.branches ≡ vec_len l.fn.ports)
