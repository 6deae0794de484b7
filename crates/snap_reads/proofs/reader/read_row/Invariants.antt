use Rattle.std.proofs.Common.{◌≡◌, length}
use Rattle.snap_reads.specs.Steps.{HasPart}
use Rattle.snap_reads.proofs.reader.read_row.Given as goal

abbrev pub invariant-loop-k : goal.invariant-loop-k
invariant-loop-k l = (l.seat.table_id ≡ l.fn.seat.table_id) × (length l.words ≡ 12) × HasPart l.fn.seat.me l.k l.words l.seat.me
