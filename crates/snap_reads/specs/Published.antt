-- published list, view, rule of the readers' table: the list that the count counts and whose rows
-- stand; what a seat knows of it; what holds between two steps: one word counts the published
-- commands, and the others have their rows.
use Rattle.std.specs.Prelude.{ℕ, suc, ◌≡◌, ◌+◌, ◌*◌, ◌<◌, ◌≤◌, true, false, List, [], ◌∷◌, ◌++◌, length, slice_index, Some, None, ⊤}
use mathlib.Core.Option as opt
use lib.ListN.{get_elem?}
use Rattle.atomic_table.specs.Table.{State}
use Rattle.kv_store.specs.Commands.{Request}
use Rattle.mu_model.specs.Histories.{IsPrefixOf}
use Rattle.mu_rows.specs.Rows.{IsCommand, spelled}
use Rattle.snap_reads.specs.declared.rule.View.{View}

-- the words of the rows of commands, one row after the other
abbrev pub rows_of : List Request → List ℕ
rows_of [] = []
rows_of (command ∷ commands) = spelled command 0 ++ rows_of commands

abbrev pub AreCommands : List Request → Type 0
AreCommands [] = ⊤
AreCommands (command ∷ commands) = IsCommand command × AreCommands commands

-- the place of the row that comes after this many: word 0 is the count, and a row has twelve words
abbrev pub row_place : ℕ → ℕ
row_place count = suc (12 * count)

-- how many words a table for this many commands has
abbrev pub word_count : ℕ → ℕ
word_count capacity = row_place capacity

-- these words stand in the table from a place on
abbrev pub Stand : List ℕ → ℕ → List ℕ → Type 0
Stand words place these =
    (k : ℕ) → k < length these → slice_index words (place + k) ≡ slice_index these k

-- the view of the writer: what it published, and the words that it stored since
abbrev pub writer_view : ℕ → List Request → List ℕ → View
writer_view capacity published stored =
    record {
      capacity = Some capacity;
      writes = true;
      seen = published;
      told = [];
      words = stored;
      upto =
          0;
    }

-- the view of a reader that has seen nothing yet
abbrev pub fresh_view : View → View
fresh_view v =
    record { capacity = v.capacity; writes = false; seen = []; told = []; words = []; upto = 0 }

-- the view of a note on what another seat has seen
abbrev pub note_view : View → View
note_view v =
    record
    { capacity = v.capacity; writes = false; seen = []; told = v.seen ∷ []; words = []; upto = 0 }

-- the view with what another was told of
abbrev pub informed_view : View → View → View
informed_view v w = record v { told = w.told ++ v.told }

abbrev pub spent_view : View
spent_view = record { capacity = None; writes = false; seen = []; told = []; words = []; upto = 0 }

-- each of these lists begins the published one
abbrev pub AllBegin : List (List Request) → List Request → Type 0
AllBegin [] published = ⊤
AllBegin (list ∷ lists) published = IsPrefixOf list published × AllBegin lists published

-- a reader has words only of its next row, and not all of them, and only below the count that it
-- loaded
pub record IsNextRow (v : View) : Type 0 where
  pub not_whole : length v.words < 12
  pub counted : 0 < length v.words → length v.seen < v.upto

-- what a view knows of the table
pub record Fits (limit : ℕ) (words : List ℕ) (published : List Request) (writer id : ℕ)
    (v : View) : Type 0 where
  -- it is spent, or knows for how many commands the table is
  pub capacity : (k : ℕ) → v.capacity ≡ Some k → k ≡ limit
  -- one view writes, and has the published list
  pub writes : v.writes ≡ true → (id ≡ writer) × (v.seen ≡ published)
  -- what it has seen begins the published list, and so does each list that it was told of
  pub seen : IsPrefixOf v.seen published
  pub told : AllBegin v.told published
  -- the count that it loaded last is at most the count
  pub loaded : v.upto ≤ length published
  -- the words that it stored past the count, or loaded of its next row, stand
  pub stand : Stand words (row_place (length v.seen)) v.words
  pub next : v.writes ≡ false → IsNextRow v

-- The rule, at each moment between two steps. There is one published list: the count is its length,
-- the words after it are the rows of its commands, and each view fits
pub record Holds (limit : ℕ) (s : State (Unit {0}) View) : Type 0 where
  pub published : List Request
  pub writer : ℕ
  pub commands : AreCommands published
  pub size : length s.words ≡ word_count limit
  pub count : slice_index s.words 0 ≡ length published
  pub rows : Stand s.words 1 (rows_of published)
  pub room : length published ≤ limit
  pub fits :
      (id : ℕ) (v : View) → get_elem? s.views id ≡ opt.some v
      → Fits limit s.words published writer id v
