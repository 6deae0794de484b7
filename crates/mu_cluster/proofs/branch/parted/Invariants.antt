use Rattle.std.proofs.Common.{◌≡◌, ◌++◌, length, map}
use Rattle.std.specs.Prelude.{vec_capacity, vec_len}
use Rattle.std.specs.Vec.Iter.{into_iter_items, into_iter_len}
use Rattle.mu_cluster.proofs.branch.parted.Given as goal

abbrev pub invariant-loop-branch : goal.invariant-loop-branch
invariant-loop-branch l =
    (goal.iterator-loop-branch).can_next l.branch-iterator × (goal.iterator-loop-branch).is_finite l.branch-iterator
    × (l.fn.branches.items ≡ l.yielded ++ into_iter_items l.branch-iterator)
    × (into_iter_len l.branch-iterator ≡ length (into_iter_items l.branch-iterator))
    × (l.nodes.items ≡ map (λ b. b.node) l.yielded)
    × (l.ports.items ≡ map (λ b. b.port) l.yielded)
    × (length l.nodes.items ≡ length l.yielded)
    × (length l.ports.items ≡ length l.yielded)
    × (vec_capacity l.nodes ≡ vec_len l.fn.branches)
    × (vec_capacity l.ports ≡ vec_len l.fn.branches)
