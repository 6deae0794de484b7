-- index: where a word of the list stands in memory.
use Rattle.std.specs.Prelude.{ℕ, ◌*◌, ◌+◌, ◌<◌, ◌≡◌}
use Rattle.mu_inbox.specs.declared.access.Cell.{Cell}
use Rattle.mu_inbox.specs.declared.access.Shape.{Shape}

-- how many words a list has
abbrev pub word_count : Shape → ℕ
word_count s = s.room + s.writers * s.room * 12

-- the places come first; then the rows of each writer
abbrev pub index_of : Shape → Cell → ℕ
index_of s (Cell.Place p) = p
index_of s (Cell.Word w j k) = s.room + (w * s.room + j) * 12 + k

-- it is a word of the list
abbrev pub IsCell : Shape → Cell → Type 0
IsCell s (Cell.Place p) = p < s.room
IsCell s (Cell.Word w j k) = (w < s.writers) × (j < s.room) × (k < 12)

-- different words stand at different places
abbrev pub CellsDiffer : Type 0
CellsDiffer =
    (s : Shape) (a b : Cell) → IsCell s a → IsCell s b → index_of s a ≡ index_of s b → a ≡ b
