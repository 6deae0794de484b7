-- law of spellings: a string is read back from its spelling. So no two have the same.
use Rattle.std.specs.Prelude.{ℕ, ◌≡◌, ◌<◌, List}
use Rattle.std.specs.List.{AllByRecursion}
use Rattle.mu_strings.specs.Spellings.{spelled, string_of}

-- a byte has 8 bits
abbrev pub IsByte : ℕ → Type 0
IsByte byte = byte < 256

-- a string is read back from its spelling
abbrev pub IsReadBack : Type 0
IsReadBack = (string : List ℕ) → AllByRecursion IsByte string → string_of (spelled string) ≡ string
