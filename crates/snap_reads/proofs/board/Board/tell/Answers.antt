use Rattle.std.proofs.Common.{rules, arith}
use Rattle.snap_reads.proofs.Keeps.{tells}
use Rattle.snap_reads.proofs.board.Board.tell.Goals as goal

pub split_seat-requires : goal.split_seat-requires
split_seat-requires c = (search rules, omega (arith, c.self.invariant.words), tells _ _ _)
