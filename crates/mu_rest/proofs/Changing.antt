-- What stands in a list after one of its items was changed.
use Rattle.std.proofs.Common.{◌≡◌, ◌≢◌, ℕ, zero, suc, ◌<◌, ◌⊎◌, inl, inr, List, [], ◌∷◌, refl, ap, arith, subst, Some, length, set, get_or}
use Rattle.std.specs.List.{slice_get}
use Rattle.std.proofs.lemmas.Option.{slice_get-get_or}

-- the same is held
pub same_some : {A : Type 0} (x y : A) → Some x ≡ Some y → x ≡ y
same_some x y same = cc

-- what stands at a place is the new item, if it is the changed place, or else what stood there
pub set_get : {A : Type 0} (xs : List A) (i : ℕ) (y : A) (k : ℕ) (z : A) → slice_get (set xs i y) k ≡ Some z → ((k ≡ i) × (y ≡ z)) ⊎ ((k ≢ i) × (slice_get xs k ≡ Some z))
set_get [] zero y k z is = cc
set_get [] (suc i) y k z is = cc
set_get (x ∷ xs) zero y zero z is = inl (refl, same_some y z is)
set_get (x ∷ xs) zero y (suc k) z is = inr ((λ e. absurd (omega arith)), is)
set_get (x ∷ xs) (suc i) y zero z is = inr ((λ e. absurd (omega arith)), is)
set_get (x ∷ xs) (suc i) y (suc k) z is = elim (set_get xs i y k z is) [ inl here ↦ inl (ap suc here.0, here.1) | inr other ↦ inr ((λ e. other.0 (omega arith)), other.1) ]

-- the item at a place of a list each of whose items holds something
pub item_read : {A : Type 0} (P : ℕ → A → Type 0) (items : List A) (k p : ℕ) (d : A) → k ≡ p → p < length items → ((q : ℕ) (x : A) → slice_get items q ≡ Some x → P q x) → P p (get_or items k d)
item_read P items k p d at low each = each p (get_or items k d) (subst (λ q. slice_get items q ≡ Some (get_or items k d)) at (slice_get-get_or items k d (omega arith)))
