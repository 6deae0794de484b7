-- note: the fields of a note, and what its model shows.
use Rattle.std.specs.Prelude.{◌≡◌, List, [], ◌∷◌}
use Rattle.kv_store.specs.Commands.{Request}
use Rattle.snap_reads.specs.declared.told.Told.TheInside as told
use Rattle.snap_reads.specs.Seats.{Note}

-- the first of these lists
abbrev pub first_of : List (List Request) → List Request
first_of [] = []
first_of (list ∷ lists) = list

abbrev pub note_of : told.Inside → Note
note_of t = record { table = t.seat.table_id; list = first_of t.seat.me.0.told }

-- the seat was told of one list, and holds no slot
pub record IsNote (t : told.Inside) : Type 0 where
  pub told : t.seat.me.0.told ≡ first_of t.seat.me.0.told ∷ []
  pub slots : t.seat.me.1 ≡ []
