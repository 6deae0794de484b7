use Rattle.snap_reads.proofs.Telling.{HasRead}
use Rattle.snap_reads.proofs.living.told_reads.Given as goal

abbrev pub invariant-loop-key : goal.invariant-loop-key
invariant-loop-key l = HasRead l.fn.told l.keys l.key-index l.reader l.sights
