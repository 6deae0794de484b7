-- first at, tells place: where a number stands in a list for the first time.
use Rattle.std.specs.Prelude.{List, None, Some, false, length, ℕ, ◌++◌, ◌∷◌, ◌≡◌}
use Rattle.std.specs.declared.option.Option.{Option}
use Rattle.mu_model.specs.Contents.{includes}

-- x stands at this place of the list, and not before
pub record IsFirstAt (x : ℕ) (xs : List ℕ) (at : ℕ) : Type 0 where
  pub before : List ℕ
  pub after : List ℕ
  pub whole : xs ≡ before ++ x ∷ after
  pub count : length before ≡ at
  pub lacks : includes x before ≡ false

-- the place of x is told, or that there is none
abbrev pub TellsPlace : ℕ → List ℕ → Option ℕ → Type 0
TellsPlace x xs None = includes x xs ≡ false
TellsPlace x xs (Some at) = IsFirstAt x xs at
