-- writer: the fields of the writer, and what its model shows.
use Rattle.std.specs.Prelude.{ℕ, ◌≡◌, ◌≤◌, List, [], ◌++◌, length, vec_capacity}
use Rattle.std.specs.Arc.{arc_value}
use Rattle.kv_store.specs.Commands.{Request}
use Rattle.snap_reads.specs.declared.writer.SnapWriter.TheInside as writer
use Rattle.snap_reads.specs.Published.{AreCommands, rows_of, writer_view}
use Rattle.snap_reads.specs.Seats.{Writing}
use Rattle.snap_reads.specs.Steps.{HasPart}

abbrev pub writing_of : writer.Inside → Writing
writing_of w =
    record {
      table = w.seat.table_id;
      capacity = (arc_value w.board).capacity;
      published =
          w.seat.me.0.seen;
      list = w.list.items;
    }

-- the words that the writer stored past the count are the rows of the rest of its list, which has
-- room for all commands of the table, and no more
pub record IsWriter (w : writer.Inside) : Type 0 where
  pub pending : List Request
  pub of : w.seat.table_id ≡ (arc_value w.board).table
  pub view :
      w.seat.me ≡ (writer_view (arc_value w.board).capacity w.seat.me.0.seen (rows_of pending), [])
  pub list : w.list.items ≡ w.seat.me.0.seen ++ pending
  pub count : w.published ≡ length w.seat.me.0.seen
  pub commands : AreCommands w.list.items
  pub within : length w.list.items ≤ (arc_value w.board).capacity
  pub room : vec_capacity w.list ≡ (arc_value w.board).capacity
  pub few : (arc_value w.board).capacity ≤ 1500

-- the first k words of a row were stored, and nothing else changed
pub record IsAt (before : writer.Inside) (k : ℕ) (row : List ℕ)
    (after : writer.Inside) : Type 0 where
  pub board : after.board ≡ before.board
  pub table : after.seat.table_id ≡ before.seat.table_id
  pub part : HasPart before.seat.me k row after.seat.me
  pub list : after.list ≡ before.list
  pub published : after.published ≡ before.published
