-- steps of the readers' table: what a load, a store and a raising of the count do to the view of a
-- seat, and what they tell.
use Rattle.std.specs.Prelude.{ℕ, ◌≡◌, ◌+◌, ◌<◌, ◌≤◌, false, List, [], ◌∷◌, ◌++◌, length, take, Some, ⊤}
use Rattle.atomic_table.specs.Table.{Me, Step}
use Rattle.atomic_table.specs.declared.shared.Seat.{Seat}
use Rattle.kv_store.specs.Commands.{Request}
use Rattle.mu_model.specs.Histories.{IsPrefixOf}
use Rattle.mu_rows.specs.Rows.{IsCommand, spelled}
use Rattle.snap_reads.specs.declared.rule.View.{View}
use Rattle.snap_reads.specs.Published.{row_place, word_count}
use Rattle.snap_reads.specs.Seats.{Shelf}

-- each of these lists that is no longer than what was seen begins it
abbrev pub ShortBegin : List (List Request) → List Request → Type 0
ShortBegin [] seen = ⊤
ShortBegin (list ∷ lists) seen =
    (length list ≤ length seen → IsPrefixOf list seen) × ShortBegin lists seen

-- each of these lists has at most this many commands
abbrev pub AllWithin : List (List Request) → ℕ → Type 0
AllWithin [] count = ⊤
AllWithin (list ∷ lists) count = (length list ≤ count) × AllWithin lists count

-- the seat is one of this table
abbrev pub IsOf : Shelf → Seat (Unit {0}) View → Type 0
IsOf shelf seat = seat.table_id ≡ shelf.table

-- a seat of the same table was cut off, with this view, and the one before it stays as it was
pub record Cuts (view : View) (before after cut : Seat (Unit {0}) View) : Type 0 where
  pub same : (after.table_id ≡ before.table_id) × (after.me ≡ before.me)
  pub cut_is : (cut.table_id ≡ before.table_id) × (cut.me ≡ (view, []))

-- a reader of a table for this many commands has words of no row, and counted the next one
pub record AwaitsRow (capacity : ℕ) (v : View) : Type 0 where
  pub reads : v.writes ≡ false
  pub none : v.words ≡ []
  pub counted : length v.seen < v.upto
  pub inside : v.upto ≤ capacity
  pub few : capacity ≤ 1500

-- it counted the next row, and the next word of that stands at this place
pub record AwaitsWord (capacity place : ℕ) (v : View) : Type 0 where
  pub reads : v.writes ≡ false
  pub next : place ≡ row_place (length v.seen) + length v.words
  pub inside : place < word_count capacity
  pub more : length v.words < 12
  pub counted : length v.seen < v.upto

-- a load of the count, which found n
pub record Counted (before : Me (Unit {0}) View) (n : ℕ) (after : Me (Unit {0}) View) : Type 0 where
  pub after_is : after ≡ (record before.0 { upto = n }, before.1)
  pub seen_within : length before.0.seen ≤ n
  pub told_within : AllWithin before.0.told n
  pub within : (k : ℕ) → before.0.capacity ≡ Some k → n ≤ k
  pub told : ShortBegin before.0.told before.0.seen

-- a load of a word of the next row that isn't its last
pub record Loaded (before : Me (Unit {0}) View) (n : ℕ) (after : Me (Unit {0}) View) : Type 0 where
  pub after_is : after ≡ (record before.0 { words = before.0.words ++ n ∷ [] }, before.1)

-- a load of the last word of the next row, which is the row of a command
pub record Ended (before : Me (Unit {0}) View) (n : ℕ) (after : Me (Unit {0}) View) : Type 0 where
  pub command : Request
  pub is_command : IsCommand command
  pub row : before.0.words ++ n ∷ [] ≡ spelled command 0
  pub after_is :
      after ≡ (record before.0 { seen = before.0.seen ++ command ∷ []; words = [] }, before.1)
  pub told : ShortBegin before.0.told (before.0.seen ++ command ∷ [])

-- a load of a word of the next row, the last or another
pub record TakesWord (before : Me (Unit {0}) View) (n : ℕ)
    (after : Me (Unit {0}) View) : Type 0 where
  pub other : length before.0.words < 11 → Loaded before n after
  pub last : length before.0.words ≡ 11 → Ended before n after

-- the first k words of a row were loaded, or stored
abbrev pub HasPart : Me (Unit {0}) View → ℕ → List ℕ → Me (Unit {0}) View → Type 0
HasPart before k row after =
    after ≡ (record before.0 { words = before.0.words ++ take k row }, before.1)

-- the words of the next row were loaded, and it is the row of a command
pub record HasRow (before : Me (Unit {0}) View) (row : List ℕ)
    (after : Me (Unit {0}) View) : Type 0 where
  pub command : Request
  pub is_command : IsCommand command
  pub spells : row ≡ spelled command 0
  pub after_is :
      after ≡ (record before.0 { seen = before.0.seen ++ command ∷ []; words = [] }, before.1)
  pub told : ShortBegin before.0.told (before.0.seen ++ command ∷ [])

-- a store of a word past the count
pub record Stored (before : Me (Unit {0}) View) (word : ℕ)
    (after : Me (Unit {0}) View) : Type 0 where
  pub after_is : after ≡ (record before.0 { words = before.0.words ++ word ∷ [] }, before.1)

-- a raising of the count that publishes these commands
pub record Raised (commands : List Request) (before after : Me (Unit {0}) View) : Type 0 where
  pub after_is :
      after ≡ (record before.0 { seen = before.0.seen ++ commands; words = [] }, before.1)

abbrev pub counting : Step (Unit {0}) → Me (Unit {0}) View → ℕ → Me (Unit {0}) View → Type 0
counting st before n after = Counted before n after

abbrev pub loading : Step (Unit {0}) → Me (Unit {0}) View → ℕ → Me (Unit {0}) View → Type 0
loading st before n after = TakesWord before n after

abbrev pub storing : Step (Unit {0}) → Me (Unit {0}) View → ℕ → Me (Unit {0}) View → Type 0
storing st before n after = Stored before st.first after

abbrev pub raising :
    List Request → Step (Unit {0}) → Me (Unit {0}) View → ℕ → Me (Unit {0}) View → Type 0
raising commands st before n after = Raised commands before after
