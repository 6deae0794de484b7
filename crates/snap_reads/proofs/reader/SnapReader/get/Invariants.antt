use Rattle.snap_reads.specs.Readers.{IsUpto}
use Rattle.snap_reads.proofs.reader.SnapReader.get.Given as goal

abbrev pub invariant-loop-seen : goal.invariant-loop-seen
invariant-loop-seen l = IsUpto l.initial.self-inside l.seen l.self-inside
