-- shelf: the fields of the table, and what its model shows.
use Rattle.std.specs.Prelude.{◌≡◌}
use Rattle.snap_reads.specs.declared.board.Board.TheInside as board
use Rattle.snap_reads.specs.Published.{word_count}
use Rattle.snap_reads.specs.Seats.{Shelf}

abbrev pub shelf_of : board.Inside → Shelf
shelf_of b = record { table = b.table.shared.table_id; capacity = b.table.shared.key }

-- the table has the words for its number of commands
pub record IsShelf (b : board.Inside) : Type 0 where
  pub words : b.table.shared.table_id.words ≡ word_count b.table.shared.key
