-- row of a verb, field, parts of a verb: how the line of each verb reads, by a table.
--
-- The parts are what a journal keeps of a verb: its fields, and its own word if it has one.
use Rattle.std.specs.Prelude.{ℕ, ◌+◌, ◌*◌, ◌^◌, ◌≤◌, ◌==◌, List, [], ◌∷◌, find, length, map, unwrap_or}
use Rattle.std.specs.Borrow.{Bor}
use Rattle.std.specs.Str.{bytes_eq}
use Rattle.std.specs.declared.option.Option.{Option}
use Rattle.mu_events.specs.declared.table.Field.{Field}
use Rattle.mu_events.specs.declared.table.TheConstants.{VERBS}
use Rattle.mu_model.specs.Packing.{fields, fields_of, own_word}
use Rattle.mu_model.specs.declared.event.Verb.{Verb}
use Rattle.mu_model.specs.declared.packing.VerbFields.{VerbFields}

-- how the line of a verb reads: its number, its name, its fields in the order in which the line has
-- them, and how the line of an event reads behind the name
pub record Row : Type 0 where
  pub number : ℕ
  pub name : List ℕ
  pub order : List Field
  pub behind : List ℕ

abbrev pub row : ℕ → List ℕ → List Field → List ℕ → Row
row number name order behind =
    record { number = number; name = name; order = order; behind = behind }

-- all rows
abbrev pub rows : List Row
rows = map (λ r. row r.0 r.1.now r.2.now r.3.now) VERBS

-- a row as it is passed
abbrev pub passed : ℕ × Bor (List ℕ) × Bor (List Field) × Bor (List ℕ) → Row
passed r = row r.0 r.1.now r.2.now r.3.now

-- the row of the verb with this name
abbrev pub row_named : List ℕ → Option Row
row_named name = find (λ row. bytes_eq name row.name) rows

-- the row of the verb with this number
abbrev pub row_numbered : ℕ → Option Row
row_numbered number = find (λ row. row.number == number) rows

-- the row of a verb
abbrev pub row_of : Verb → Row
row_of verb = unwrap_or (row_numbered (fields_of verb).number) (row 0 [] [] [])

-- at most how many words these fields have
abbrev pub most_words : List Field → ℕ
most_words [] = 0
most_words (Field.Target ∷ order) = 2
most_words (field ∷ order) = 1 + most_words order

-- a line has room for the words of a verb, and for what is said of it
pub record IsShort (row : Row) : Type 0 where
  pub words : length row.name + 21 * most_words row.order ≤ 91
  pub said : length row.name + length row.behind ≤ 110

-- a verb by its parts
abbrev pub Parts : Type 0
Parts = VerbFields × ℕ

abbrev pub parts_of : Verb → Parts
parts_of verb = (fields_of verb, unwrap_or (own_word verb) 0)

-- the number of a field
abbrev pub number_in : Field → Parts → ℕ
number_in Field.Small parts = parts.0.small
number_in Field.First parts = parts.0.first
number_in Field.Second parts = parts.0.second
number_in _ parts = parts.1

-- how many numbers a field can have
abbrev pub limit_of : Field → ℕ
limit_of Field.Small = 2 ^ 8
limit_of Field.First = 2 ^ 16
limit_of Field.Second = 2 ^ 16
limit_of Field.Wide = 2 ^ 32
limit_of _ = 2 ^ 64

-- the parts with this number in a field
abbrev pub put_in : Field → Parts → ℕ → Parts
put_in Field.Small (f, own) n = (fields f.number n f.first f.second, own)
put_in Field.First (f, own) n = (fields f.number f.small n f.second, own)
put_in Field.Second (f, own) n = (fields f.number f.small f.first n, own)
put_in _ (f, own) n = (f, n)
