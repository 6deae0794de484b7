use Rattle.std.proofs.Common.{rules, arith}
use Rattle.snap_reads.proofs.Keeps.{counts}
use Rattle.snap_reads.proofs.board.Board.count.Goals as goal

pub load-requires : goal.load-requires
load-requires c = (search rules, omega (arith, c.self.invariant.words), counts _ _ _ _ c.requires.reads c.requires.none)
