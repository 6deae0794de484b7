use Rattle.std.proofs.Common.{rules}
use Rattle.snap_reads.proofs.Keeps.{opens}
use Rattle.snap_reads.proofs.board.Board.start.Goals as goal

pub of_words-requires : goal.of_words-requires
of_words-requires c = opens _ _ (search rules)
