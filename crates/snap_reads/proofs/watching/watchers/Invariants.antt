use Rattle.std.proofs.Common.{◌≡◌, ◌++◌, length, map}
use Rattle.std.specs.Prelude.{All, vec_capacity, vec_len}
use Rattle.std.specs.Vec.Iter.{into_iter_items, into_iter_len}
use Rattle.snap_reads.specs.Lives.{AreNumbered, IsReady}
use Rattle.snap_reads.proofs.watching.watchers.Given as goal

abbrev pub invariant-loop-reader : goal.invariant-loop-reader
invariant-loop-reader l =
    (goal.iterator-loop-reader).can_next l.reader-iterator × (goal.iterator-loop-reader).is_finite l.reader-iterator
    × (l.fn.readers.items ≡ l.yielded ++ into_iter_items l.reader-iterator)
    × (into_iter_len l.reader-iterator ≡ length (into_iter_items l.reader-iterator))
    × All (IsReady l.keys) l.watchers.items
    × (map (λ w. w.reader) l.watchers.items ≡ l.yielded)
    × (length l.watchers.items ≡ length l.yielded)
    × (vec_capacity l.watchers ≡ vec_len l.fn.readers)
    × (l.number ≡ length l.yielded)
    × AreNumbered 1 l.watchers.items
