-- reader: the fields of a reader, and what its model shows.
use Rattle.std.specs.Prelude.{ℕ, ◌≡◌, ◌+◌, ◌≤◌, false, [], length, Some}
use Rattle.std.specs.Arc.{arc_value}
use Rattle.kv_store.specs.Tables as tables
use Rattle.mu_model.specs.Histories.{IsPrefixOf}
use Rattle.snap_reads.specs.declared.reader.SnapReader.TheInside as reader
use Rattle.snap_reads.specs.Seats.{Reading}
use Rattle.snap_reads.specs.Steps.{ShortBegin}

abbrev pub reading_of : reader.Inside → Reading
reading_of r =
    record {
      table = r.seat.table_id;
      capacity = (arc_value r.board).capacity;
      seen = r.seat.me.0.seen;
      told = r.seat.me.0.told;
    }

-- the reader's store is the one after all that it has seen, and has room for the others
pub record IsReader (r : reader.Inside) : Type 0 where
  pub of : r.seat.table_id ≡ (arc_value r.board).table
  pub capacity : r.seat.me.0.capacity ≡ Some (arc_value r.board).capacity
  pub reads : r.seat.me.0.writes ≡ false
  pub none : r.seat.me.0.words ≡ []
  pub slots : r.seat.me.1 ≡ []
  pub count : r.seen ≡ length r.seat.me.0.seen
  pub within : length r.seat.me.0.seen ≤ (arc_value r.board).capacity
  pub table : r.store.table ≡ tables.store r.seat.me.0.seen
  pub room : (arc_value r.board).capacity ≤ r.store.room + length r.seat.me.0.seen
  pub few : (arc_value r.board).capacity ≤ 1500

-- `count` commands were read since, and nothing else changed: the store is the one after them
pub record IsUpto (before : reader.Inside) (count : ℕ) (after : reader.Inside) : Type 0 where
  pub board : after.board ≡ before.board
  pub table : after.seat.table_id ≡ before.seat.table_id
  pub view :
      after.seat.me
      ≡ (record before.seat.me.0 { seen = after.seat.me.0.seen; words = [] }, before.seat.me.1)
  pub seen : IsPrefixOf before.seat.me.0.seen after.seat.me.0.seen
  pub count_is : length after.seat.me.0.seen ≡ count
  pub store : after.store.table ≡ tables.store after.seat.me.0.seen
  pub room : (arc_value before.board).capacity ≤ after.store.room + count
  pub told : ShortBegin before.seat.me.0.told after.seat.me.0.seen
