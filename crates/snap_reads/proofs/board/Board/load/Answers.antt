use Rattle.std.proofs.Common.{rules, ap, arith}
use Rattle.snap_reads.specs.Seats.{Shelf}
use Rattle.snap_reads.proofs.Keeps.{loads}
use Rattle.snap_reads.proofs.board.Board.load.Goals as goal

pub load-requires : goal.load-requires
load-requires c = (
  search rules,
  omega (arith, c.self.invariant.words, c.requires.at.inside, ap (λ (s : Shelf). s.capacity) c.self.view_is),
  loads _ _ _ _ _ c.requires.at.reads c.requires.at.next c.requires.at.more c.requires.at.counted,
)
