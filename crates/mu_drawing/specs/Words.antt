-- What the words of the command line ask for.
use Rattle.std.specs.Prelude.{ℕ, ◌&&◌, Bool, true, false, if◌then◌else◌, nat_le, List, [], ◌∷◌, codes, string_bytes, None, Some}
use Rattle.std.specs.Str.{bytes_eq}
use Rattle.std.specs.declared.option.Option.{Option}
use Rattle.std.specs.declared.string.String.{String}
use Rattle.std.specs.declared.alloc.Global.{Global}
use Rattle.mu_text.specs.Numbers.{number_of, within}
use Rattle.mu_drawing.specs.declared.asking.TheConstants.{LAST_STEP}
use Rattle.mu_picture.specs.declared.pictures.Extent.{Extent}

-- all steps, in brief or not
abbrev pub all_steps : Bool → Extent
all_steps brief = record { first = 0; last = LAST_STEP; brief = brief }

-- the steps from the first to the last, if there is one
abbrev pub asked_to : Bool → ℕ → Option ℕ → Option Extent
asked_to brief first None = None
asked_to brief first (Some last) = Some (record { first = first; last = last; brief = brief })

-- the steps from the first, if there is one, to the last, which is no step before it
abbrev pub asked_from : Bool → Option ℕ → List ℕ → Option Extent
asked_from brief None last = None
asked_from brief (Some first) last =
    asked_to brief first (within first LAST_STEP (number_of last))

-- what one word asks for
abbrev pub asked_of_one : List ℕ → Option Extent
asked_of_one word = if bytes_eq word (codes "brief") then Some (all_steps true) else None

-- what two words ask for, in brief or not
abbrev pub asked_of_two : Bool → List ℕ → List ℕ → Option Extent
asked_of_two brief first last = asked_from brief (within 0 LAST_STEP (number_of first)) last

-- what three words ask for
abbrev pub asked_of_three : List ℕ → List ℕ → List ℕ → Option Extent
asked_of_three word first last =
    if bytes_eq word (codes "brief") then asked_of_two true first last else None

-- what the words ask for: all steps, or those from one to another, and in brief or not
abbrev pub asked_of : List (String Global) → Option Extent
asked_of [] = Some (all_steps false)
asked_of (word ∷ []) = asked_of_one (string_bytes word)
asked_of (first ∷ last ∷ []) = asked_of_two false (string_bytes first) (string_bytes last)
asked_of (word ∷ first ∷ last ∷ []) =
    asked_of_three (string_bytes word) (string_bytes first) (string_bytes last)
asked_of (word ∷ first ∷ last ∷ more ∷ words) = None

-- the steps from one to another, if they are in order and the last is one that can be named
abbrev pub asked_steps : ℕ → ℕ → Option Extent
asked_steps first last =
    if nat_le first last && nat_le last LAST_STEP
    then Some (record { first = first; last = last; brief = false }) else None
