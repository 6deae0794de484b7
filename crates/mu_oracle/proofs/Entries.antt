-- What stands in a list after a push or a change.
use Rattle.std.proofs.Common.{◌≡◌, ℕ, ◌<◌, Bool, true, false, List, [], ◌∷◌, ◌++◌, refl, sym, ◌∙◌, ap, arith, Some, length, set, ◌&&◌, ◌==◌, eqb-true}
use Rattle.std.specs.Prelude.{if◌then◌else◌, nat_le}
use Rattle.std.proofs.lemmas.List.{set_past}
use Rattle.std.proofs.lemmas.Bool.{eqb-false, leb-true, leb-false}
use Rattle.std.specs.List.{slice_get}
use Rattle.mu_model.proofs.Lists.{get_push_here, get_push_other, get_set_here, get_set_other}

-- the entry at i after a put at j
pub get_after : (xs : List (ℕ × ℕ)) (i j : ℕ) (z : ℕ × ℕ) → slice_get (if j == length xs then xs ++ z ∷ [] else set xs j z) i ≡ (if (j == i) && nat_le j (length xs) then Some z else slice_get xs i)
get_after xs i j z = go (j == length xs) refl (j == i) refl (nat_le j (length xs)) refl
  where
    go : (t : Bool) → (j == length xs) ≡ t → (u : Bool) → (j == i) ≡ u → (w : Bool) → nat_le j (length xs) ≡ w
        → slice_get (if t then xs ++ z ∷ [] else set xs j z) i ≡ (if u && w then Some z else slice_get xs i)
    go true ht true hu true hw = get_push_here xs i z (let a = eqb-true j (length xs) ht in let b = eqb-true j i hu in omega arith)
    go true ht true hu false hw = absurd (let a = eqb-true j (length xs) ht in let b = leb-false j (length xs) hw in omega arith)
    go true ht false hu w hw = get_push_other xs i z (λ e. eqb-false j i hu (let a = eqb-true j (length xs) ht in omega arith))
    go false ht true hu true hw =
        let a : j ≡ i = eqb-true j i hu in
        let l : j < length xs = (let b = leb-true j (length xs) hw in let d = eqb-false j (length xs) ht in omega arith) in
        ap (slice_get (set xs j z)) (sym a) ∙ get_set_here xs j z l
    go false ht true hu false hw = ap (λ ys. slice_get ys i) (set_past xs j z (let b = leb-false j (length xs) hw in omega arith))
    go false ht false hu w hw = get_set_other xs i j z (λ e. eqb-false j i hu (sym e))
