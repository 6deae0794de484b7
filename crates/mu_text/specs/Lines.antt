-- lines, words: how bytes are cut into lines, and a line into words.
use Rattle.std.specs.Prelude.{ℕ, Bool, false, if◌then◌else◌, ◌==◌, List, [], ◌∷◌, ◌++◌}
use Rattle.std.specs.Str.{bytes_eq}
use Rattle.std.specs.List.{slice_split, onto_first}
use Rattle.mu_text.specs.declared.TheConstants.{LINE_FEED, SPACE}

-- the lines: each ends with a line feed, which the last may lack
abbrev pub lines : List ℕ → List (List ℕ)
lines [] = []
lines (byte ∷ bytes) = if byte == LINE_FEED then [] ∷ lines bytes else onto_first byte (lines bytes)

-- lines, each ended by one line feed
abbrev pub ended : List (List ℕ) → List ℕ
ended [] = []
ended (line ∷ lines) = line ++ LINE_FEED ∷ ended lines

-- the words of a line: what stands between single spaces
abbrev pub words : List ℕ → List (List ℕ)
words line = slice_split (λ byte. byte == SPACE) line

-- the lines of an input that are left, and the number of the first of them
pub record Left : Type 0 where
  pub number : ℕ
  pub lines : List (List ℕ)

-- the line is this one word
abbrev pub is_alone : List ℕ → List (List ℕ) → Bool
is_alone word [] = false
is_alone word (first ∷ []) = bytes_eq first word
is_alone word (first ∷ second ∷ words) = false

-- the first word of the line is this one
abbrev pub is_first : List ℕ → List (List ℕ) → Bool
is_first word [] = false
is_first word (first ∷ words) = bytes_eq first word
