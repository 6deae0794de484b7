-- Replicas one after the other, from the last on.
use Rattle.std.proofs.Common.{◌≡◌, ◌∙◌, ℕ, suc, zero, ◌+◌, ◌≤◌, Bool, true, false, List, [], ◌∷◌, Some, ap, arith, drop}
use Rattle.std.specs.Prelude.{if◌then◌else◌}
use Rattle.std.specs.List.{slice_get}
use Rattle.mu_model.proofs.Basics.{same_some}

-- what a list has from one of its places on
pub drop_here : {A : Type 0} (i : ℕ) (xs : List A) (x : A) → slice_get xs i ≡ Some x → drop i xs ≡ x ∷ drop (i + 1) xs
drop_here i [] x at = cc
drop_here zero (y ∷ xs) x at = ap (λ z. z ∷ xs) (same_some y x at)
drop_here (suc i) (y ∷ xs) x at = let on : suc (i + 1) ≡ suc i + 1 = omega arith in drop_here i xs x at ∙ ap (λ n. x ∷ drop n (y ∷ xs)) on

-- one of as many places, or none
pub counted_few : (t : Bool) (n k : ℕ) → n ≤ k → (if t then n + 1 else n) ≤ k + 1
counted_few true n k few = omega (arith, few)
counted_few false n k few = omega (arith, few)
