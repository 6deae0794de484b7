use Rattle.std.proofs.Common.{rules, arith}
use Rattle.snap_reads.proofs.Keeps.{learns}
use Rattle.snap_reads.proofs.board.Board.learn.Goals as goal

pub join_seat-requires : goal.join_seat-requires
join_seat-requires c = (search rules, search rules, c.requires.slots, omega (arith, c.self.invariant.words), learns _ _ _ _ _)
