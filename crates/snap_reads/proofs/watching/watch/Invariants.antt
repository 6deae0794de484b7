use Rattle.snap_reads.specs.Lives.{HasWatched}
use Rattle.snap_reads.proofs.watching.watch.Given as goal

abbrev pub invariant-loop-k : goal.invariant-loop-k
invariant-loop-k g l = HasWatched l.initial.watcher.reader l.keys l.k l.watcher
