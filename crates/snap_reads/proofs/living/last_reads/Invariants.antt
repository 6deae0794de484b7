use Rattle.std.proofs.Common.{◌≡◌, ◌≤◌, ◌++◌, length}
use Rattle.std.specs.Prelude.{All, vec_capacity, vec_len}
use Rattle.std.specs.Vec.Iter.{into_iter_items, into_iter_len}
use Rattle.snap_reads.specs.Lives.{AreSights}
use Rattle.snap_reads.proofs.living.last_reads.Given as goal

abbrev pub invariant-loop-watcher : goal.invariant-loop-watcher
invariant-loop-watcher l =
    (goal.iterator-loop-watcher).can_next l.watcher-iterator × (goal.iterator-loop-watcher).is_finite l.watcher-iterator
    × (l.fn.watchers.items ≡ l.yielded ++ into_iter_items l.watcher-iterator)
    × (into_iter_len l.watcher-iterator ≡ length (into_iter_items l.watcher-iterator))
    × All (AreSights l.fn.writer.published l.keys) l.lists.items
    × (length l.lists.items ≡ length l.yielded)
    × (vec_len l.fn.watchers ≤ vec_capacity l.lists)
    × (l.writer ≡ l.fn.writer)
