-- stands for (held rows): the state of the rows that replica r wrote or read stands for its events.
use Rattle.std.specs.Prelude.{Bool, List, None, Some, false, length, true, vec_capacity, ℕ, ◌%◌, ◌*◌, ◌+◌, ◌/◌, ◌<◌, ◌≡◌, ◌≤◌}
use Rattle.std.specs.declared.option.Option.{Option}
use Rattle.std.specs.List.{slice_get}
use Rattle.mu_model.specs.declared.config.Config.{Config}
use Rattle.mu_model.specs.declared.event.Event.{Event}
use Rattle.mu_model.specs.declared.event.Verb.{Verb}
use Rattle.mu_model.specs.Contents.{row_count}
use Rattle.mu_model.specs.Knowledge.{applied, has_row, has_word, wrote}
use Rattle.mu_knowledge.specs.declared.held_rows.HeldRows.{HeldRows}

-- the place of word k of the row of the payload number v in the table of all rows
abbrev pub word_place : ℕ → ℕ → ℕ
word_place v k = (v % 4096 * 7 + v / 4096) * 12 + k

-- the table says of each word of the first `rows` rows of seven replicas whether it is there
abbrev pub AreThere : ℕ → (ℕ → ℕ → Bool) → List Bool → Type 0
AreThere rows is_there table =
    (v k : ℕ) → v / 4096 < 7 → v % 4096 < rows → k < 12
    → slice_get table (word_place v k) ≡ Some (is_there v k)

-- which words of all rows r has
abbrev pub HasWords : Config → ℕ → List Event → List Bool → Type 0
HasWords c r mine got = AreThere (row_count c) (λ v k. has_word r v k mine) got

-- it is told whether the row of v is there, with all its words
abbrev pub TellsRow : ℕ → HeldRows → Bool → Type 0
TellsRow v state told =
    (c : Config) → (r : ℕ) → (mine : List Event) → v / 4096 < 7 → v % 4096 < row_count c
    → HasWords c r mine state.got.items → told ≡ has_row r v mine

-- which words of its own rows r has written
abbrev pub WroteWords : Config → ℕ → List Event → List Bool → Type 0
WroteWords c r mine written =
    (j k : ℕ) → j < row_count c → k < 12 → slice_get written (j * 12 + k) ≡ Some (wrote r j k mine)

-- the state stands for the events of r
pub record StandsForHeldRows (c : Config) (r : ℕ) (mine : List Event)
    (state : HeldRows) : Type 0 where
  pub written : WroteWords c r mine state.written.items
  pub got : HasWords c r mine state.got.items
  pub applied : state.applied ≡ length (applied c r mine)

-- there is room for the words of one row more
pub record HasRoomForMarks (c : Config) (state : HeldRows) : Type 0 where
  pub written : row_count c * 12 + 12 ≤ vec_capacity state.written
  pub got : row_count c * 84 + 84 ≤ vec_capacity state.got

-- the row and the word that the verb writes or reads are there
abbrev pub IsOfRows : Config → Verb → Type 0
IsOfRows c (Verb.WriteRow j k x) = (j < row_count c) × (k < 12)
IsOfRows c (Verb.ReadRow v k) = (v / 4096 < 7) × ((v % 4096 < row_count c) × (k < 12))
IsOfRows c _ = Unit {0}

-- the verb writes or reads a row
abbrev pub is_of_row : Verb → Bool
is_of_row (Verb.WriteRow j k x) = true
is_of_row (Verb.ReadRow v k) = true
is_of_row _ = false

-- the payload number of the row that the verb of r writes or reads
abbrev pub row_named : ℕ → Verb → Option ℕ
row_named r (Verb.WriteRow j k x) = Some (r * 4096 + j)
row_named r (Verb.ReadRow v k) = Some v
row_named r _ = None
