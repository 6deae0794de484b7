-- What is applied is the beginning of what is known.
use Rattle.std.proofs.Common.{◌≡◌, ◌∙◌, ◌%◌, ◌+◌, ◌<◌, ◌≤◌, ◌||◌, Bool, true, false, List, [], ◌∷◌, None, Some, ap, arith, length, refl, subst, suc, sym, take, zero, ℕ}
use Rattle.std.specs.Prelude.{if◌then◌else◌, not}
use Rattle.std.specs.List.{slice_get}
use Rattle.std.proofs.lemmas.Option.{slice_get_past}
use Rattle.mu_model.specs.declared.config.Config.{Config}
use Rattle.mu_model.specs.declared.event.Event.{Event}
use Rattle.mu_model.specs.Contents.{IsConfig, is_batch, rest_of}
use Rattle.mu_model.specs.Histories.{all_below}
use Rattle.mu_model.specs.Knowledge.{applied, front, has_entry, has_row, known}
use Rattle.mu_model.specs.Parts.{IsPossible}
use Rattle.mu_model.proofs.Basics.{same_some}
use Rattle.mu_model.proofs.Scans.{all_at}
use Rattle.mu_knowledge.specs.RowWords.{ReadsKnown, config_words, words_held}
use Rattle.mu_knowledge.proofs.Rows.{rows_are_right_law}
use Rattle.mu_follow.proofs.Kept.{applied_is}

take_get : (xs : List ℕ) (n i : ℕ) → i < n → slice_get (take n xs) i ≡ slice_get xs i
take_get xs zero i low = absurd (omega (arith, low))
take_get [] (suc n) i low = refl
take_get (x ∷ xs) (suc n) zero low = refl
take_get (x ∷ xs) (suc n) (suc i) low = take_get xs n i (omega (arith, low))

-- an applied entry is the known one of its position
pub applied_at : (c : Config) (r i : ℕ) (mine : List Event) → i < length (applied c r mine) → slice_get (applied c r mine) i ≡ slice_get (known c r mine) i
applied_at c r i mine low = ap (λ l. slice_get l i) (sym (applied_is c r mine)) ∙ take_get (known c r mine) (length (applied c r mine)) i low

-- beyond them there is none
pub none_applied : (c : Config) (r i : ℕ) (mine : List Event) → length (applied c r mine) ≤ i → slice_get (applied c r mine) i ≡ None
none_applied c r i mine high = slice_get_past (applied c r mine) i high

-- each value before the first that fails passes
front_passes : (test : ℕ → Bool) (xs : List ℕ) (i v : ℕ) → slice_get (front test xs) i ≡ Some v → test v ≡ true
front_passes test [] i v at = cc
front_passes test (x ∷ xs) i v at = go (test x) refl (λ j. front_passes test xs j v) i at
  where
    go : (t : Bool) → test x ≡ t → ((j : ℕ) → slice_get (front test xs) j ≡ Some v → test v ≡ true) → (i : ℕ) → slice_get (if t then (x ∷ front test xs) else []) i ≡ Some v → test v ≡ true
    go true is on zero at = subst (λ y. test y ≡ true) (same_some x v at) is
    go true is on (suc i) at = on i at
    go false is on i at = cc

-- the rows of an entry that is applied are held as the configuration has them
pub applied_words : (c : Config) (r : ℕ) (mine : List Event) (i v t : ℕ) → IsConfig c → IsPossible c r mine → ReadsKnown c r mine → slice_get (applied c r mine) i ≡ Some v → is_batch c v ≡ true → t ≤ rest_of c (v % 4096)
    → words_held r (v % 4096 + t) mine ≡ config_words c (v % 4096 + t)
applied_words c r mine i v t good possible reads at batch within = rows_are_right_law c r mine v t good possible reads batch within row
  where
    all : all_below (rest_of c (v % 4096) + 1) (λ s. has_row r (v + s) mine) ≡ true
    all = subst (λ b. (not b || all_below (rest_of c (v % 4096) + 1) (λ s. has_row r (v + s) mine)) ≡ true) batch (front_passes (λ w. has_entry c r w mine) (known c r mine) i v at)

    row : has_row r (v + t) mine ≡ true
    row = all_at (rest_of c (v % 4096) + 1) (λ s. has_row r (v + s) mine) all t (omega (arith, within))
