-- word met, word held, reads known: the word that a replica last wrote or read of a row; the same,
-- or 0 if there is none; it read only rows of known batches.
use Rattle.std.specs.Prelude.{List, None, Some, [], if◌then◌else◌, true, ℕ, ◌%◌, ◌&&◌, ◌*◌, ◌+◌, ◌<◌, ◌==◌, ◌∷◌, ◌≡◌, ◌≤◌}
use Rattle.std.specs.declared.option.Option.{Option}
use Rattle.std.specs.List.{slice_get}
use Rattle.mu_model.specs.declared.config.Config.{Config}
use Rattle.mu_model.specs.declared.event.Answer.{Answer}
use Rattle.mu_model.specs.declared.event.Event.{Event}
use Rattle.mu_model.specs.declared.event.Verb.{Verb}
use Rattle.mu_model.specs.Contents.{IsConfig, config_word, is_batch, rest_of, row_count}
use Rattle.mu_model.specs.Histories.{newest, or_zero}
use Rattle.mu_model.specs.Knowledge.{has_row, known}
use Rattle.mu_model.specs.Parts.{IsPossible}
use Rattle.mu_knowledge.specs.declared.row_words.RowWords.{RowWords}

-- the word that the step of r writes or reads as word k of row j, its own or that of another
abbrev pub word_told : ℕ → ℕ → ℕ → ℕ → Verb → Answer → Option ℕ
word_told r j k by (Verb.WriteRow row word x) _ =
    if (by == r) && ((row == j) && (word == k)) then Some x else None
word_told r j k by (Verb.ReadRow v word) (Answer.Number x) =
    if (by == r) && ((v % 4096 == j) && (word == k)) then Some x else None
word_told r j k by _ _ = None

-- the word that r wrote or read there last, if it ever did
abbrev pub word_met : ℕ → ℕ → ℕ → List Event → Option ℕ
word_met r j k mine = newest (λ e. word_told r j k e.by e.verb e.answer) mine

-- the same, or 0
abbrev pub word_held : ℕ → ℕ → ℕ → List Event → ℕ
word_held r j k mine = or_zero (word_met r j k mine)

-- the twelve words of a row, as r holds them
abbrev pub words_held : ℕ → ℕ → List Event → List ℕ
words_held r j mine =
    word_held r j 0 mine ∷ word_held r j 1 mine ∷ word_held r j 2 mine ∷ word_held r j 3 mine
    ∷ word_held r j 4 mine ∷ word_held r j 5 mine ∷ word_held r j 6 mine ∷ word_held r j 7 mine
    ∷ word_held r j 8 mine ∷ word_held r j 9 mine ∷ word_held r j 10 mine
    ∷ word_held r j 11 mine ∷ []

-- the twelve words of a row of the configuration
abbrev pub config_words : Config → ℕ → List ℕ
config_words c j =
    config_word c j 0 ∷ config_word c j 1 ∷ config_word c j 2 ∷ config_word c j 3
    ∷ config_word c j 4 ∷ config_word c j 5 ∷ config_word c j 6 ∷ config_word c j 7
    ∷ config_word c j 8 ∷ config_word c j 9 ∷ config_word c j 10 ∷ config_word c j 11 ∷ []

-- the table has these words of the first `rows` rows
abbrev pub HoldWords : ℕ → (ℕ → ℕ → ℕ) → List ℕ → Type 0
HoldWords rows word table =
    (j k : ℕ) → j < rows → k < 12 → slice_get table (j * 12 + k) ≡ Some (word j k)

-- the state stands for the events of r
abbrev pub StandsForRowWords : Config → ℕ → List Event → RowWords → Type 0
StandsForRowWords c r mine state =
    HoldWords (row_count c) (λ j k. word_held r j k mine) state.words.items

-- w is the payload number of a row of a batch that r knows
pub record IsOfKnown (c : Config) (r : ℕ) (mine : List Event) (w : ℕ) : Type 0 where
  pub position : ℕ
  pub value : ℕ
  pub row : ℕ
  pub known : slice_get (known c r mine) position ≡ Some value
  pub batch : is_batch c value ≡ true
  pub within : row ≤ rest_of c (value % 4096)
  pub is : w ≡ value + row

-- if the step reads a row, the row is one of a batch that is known
abbrev pub IsReadKnown : Config → ℕ → List Event → Verb → Type 0
IsReadKnown c r mine (Verb.ReadRow w k) = IsOfKnown c r mine w
IsReadKnown c r mine _ = Unit {0}

-- r read only rows of known batches
abbrev pub ReadsKnown : Config → ℕ → List Event → Type 0
ReadsKnown c r [] = Unit {0}
ReadsKnown c r (e ∷ mine) = ReadsKnown c r mine × IsReadKnown c r mine e.verb

-- a replica that reads only rows of known batches holds each row that it has as the configuration
-- has it
abbrev pub RowsAreRight : Type 0
RowsAreRight =
    (c : Config) (r : ℕ) (mine : List Event) (v t : ℕ) → IsConfig c → IsPossible c r mine
    → ReadsKnown c r mine → is_batch c v ≡ true → t ≤ rest_of c (v % 4096)
    → has_row r (v + t) mine ≡ true
    → words_held r (v % 4096 + t) mine ≡ config_words c (v % 4096 + t)
