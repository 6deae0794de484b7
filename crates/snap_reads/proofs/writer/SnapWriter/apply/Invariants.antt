use Rattle.snap_reads.specs.Writers.{IsAt}
use Rattle.snap_reads.proofs.writer.SnapWriter.apply.Given as goal

abbrev pub invariant-loop-k : goal.invariant-loop-k
invariant-loop-k l = IsAt l.initial.self-inside l.k l.row.words l.self-inside
