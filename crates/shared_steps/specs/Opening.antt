-- opening: the words before any event, while they are written one by one.
use Rattle.std.specs.Prelude.{List, if◌then◌else◌, length, nat_lt, slice_index, ℕ, ◌≡◌}
use Rattle.mu_words.specs.declared.layout.Layout.{Layout}
use Rattle.mu_words.specs.declared.layout.Name.{Name}
use Rattle.mu_words.specs.Places.{IsName, place_of, word_count}

-- the word under a name once the fences of the regions below k are written
abbrev pub first_below : ℕ → Name → ℕ
first_below k (Name.Fence p) = if nat_lt p k then 14336 else 0
first_below k n = 0

-- the fences of the regions below k are written, and the others are not
pub record AreWrittenBelow (l : Layout) (k : ℕ) (words : List ℕ) : Type 0 where
  pub count : length words ≡ word_count l
  pub each : (n : Name) → IsName l n → slice_index words (place_of l n) ≡ first_below k n
