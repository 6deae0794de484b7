-- What stands in a list after a push or a change, in a list of copies, and in one that a loop changes place by place.
use Rattle.std.proofs.Common.{◌≡◌, ◌≢◌, ℕ, zero, suc, ◌+◌, ◌<◌, ◌≤◌, ◌⊎◌, inl, inr, ◌==◌, Bool, true, false, List, [], ◌∷◌, ◌++◌, refl, sym, ◌∙◌, ap, arith, subst, None, Some, length, set, get_or, replicate, eqb-true}
use Rattle.std.specs.List.{slice_get}
use Rattle.std.specs.declared.option.Option.{Option}
use Rattle.std.proofs.lemmas.Bool.{cases_lt, eqb-false}
use Rattle.std.proofs.lemmas.Option.{slice_get-get_or, slice_get_within}
use Rattle.mu_model.proofs.Basics.{same_some}

-- at each index below the length something stands
pub item_below : {A : Type 0} (xs : List A) (i : ℕ) → i < length xs → (x : A) × (slice_get xs i ≡ Some x)
item_below [] i l = absurd (omega arith)
item_below (x ∷ xs) zero l = (x, refl)
item_below (x ∷ xs) (suc i) l = item_below xs i (omega arith)

-- what stands at a place after a push
pub get_push_here : {A : Type 0} (xs : List A) (i : ℕ) (z : A) → i ≡ length xs → slice_get (xs ++ z ∷ []) i ≡ Some z
get_push_here [] zero z e = refl
get_push_here [] (suc i) z e = absurd (omega arith)
get_push_here (x ∷ xs) zero z e = absurd (omega arith)
get_push_here (x ∷ xs) (suc i) z e = get_push_here xs i z (omega arith)

pub get_push_other : {A : Type 0} (xs : List A) (i : ℕ) (z : A) → i ≢ length xs → slice_get (xs ++ z ∷ []) i ≡ slice_get xs i
get_push_other [] zero z d = absurd (d refl)
get_push_other [] (suc i) z d = refl
get_push_other (x ∷ xs) zero z d = refl
get_push_other (x ∷ xs) (suc i) z d = get_push_other xs i z (λ e. d (ap suc e))

-- what stands at a place if more follow
pub get_front : {A : Type 0} (xs ys : List A) (k : ℕ) (x : A) → slice_get xs k ≡ Some x → slice_get (xs ++ ys) k ≡ Some x
get_front [] ys k x e = cc
get_front (z ∷ xs) ys zero x e = e
get_front (z ∷ xs) ys (suc k) x e = get_front xs ys k x e

-- what stands at a place after a change
pub get_set_here : {A : Type 0} (xs : List A) (i : ℕ) (z : A) → i < length xs → slice_get (set xs i z) i ≡ Some z
get_set_here [] i z l = absurd (omega arith)
get_set_here (x ∷ xs) zero z l = refl
get_set_here (x ∷ xs) (suc i) z l = get_set_here xs i z (omega arith)

pub get_set_other : {A : Type 0} (xs : List A) (i j : ℕ) (z : A) → i ≢ j → slice_get (set xs j z) i ≡ slice_get xs i
get_set_other [] i j z d = refl
get_set_other (x ∷ xs) zero zero z d = absurd (d refl)
get_set_other (x ∷ xs) zero (suc j) z d = refl
get_set_other (x ∷ xs) (suc i) zero z d = refl
get_set_other (x ∷ xs) (suc i) (suc j) z d = get_set_other xs i j z (λ e. d (ap suc e))

-- what stands at a place of a list of copies
pub get_replicate : {A : Type 0} (n i : ℕ) (z : A) → i < n → slice_get (replicate n z) i ≡ Some z
get_replicate zero i z l = absurd (omega arith)
get_replicate (suc n) zero z l = refl
get_replicate (suc n) (suc i) z l = get_replicate n i z (omega arith)

-- what holds of an item at each place holds in a list of copies of it
pub all_copies : {A : Type 0} (P : ℕ → A → Type 0) (n : ℕ) (z : A) → ((i : ℕ) → P i z) → (i : ℕ) (x : A) → slice_get (replicate n z) i ≡ Some x → P i x
all_copies P n z holds i x there = subst (λ y. P i y) (copy n i there) (holds i)
  where
    copy : (n i : ℕ) → slice_get (replicate n z) i ≡ Some x → z ≡ x
    copy zero i there = cc
    copy (suc n) zero there = same_some z x there
    copy (suc n) (suc i) there = copy n i there

-- a test fails at every place of a list of copies, if it fails of the copied item and of none
pub copies_fail : {A : Type 0} (test : Option A → Bool) (n i : ℕ) (z : A) → test None ≡ false → test (Some z) ≡ false → test (slice_get (replicate n z) i) ≡ false
copies_fail test zero i z none some = none
copies_fail test (suc n) zero z none some = some
copies_fail test (suc n) (suc i) z none some = copies_fail test n i z none some

-- an item of a list in which one was set is this one or an old one
pub set_get : {A : Type 0} (xs : List A) (i : ℕ) (y : A) (k : ℕ) (z : A) → slice_get (set xs i y) k ≡ Some z → ((k ≡ i) × (y ≡ z)) ⊎ ((k ≢ i) × (slice_get xs k ≡ Some z))
set_get [] zero y k z is = cc
set_get [] (suc i) y k z is = cc
set_get (x ∷ xs) zero y zero z is = inl (refl, same_some y z is)
set_get (x ∷ xs) zero y (suc k) z is = inr ((λ e. absurd (omega arith)), is)
set_get (x ∷ xs) (suc i) y zero z is = inr ((λ e. absurd (omega arith)), is)
set_get (x ∷ xs) (suc i) y (suc k) z is = elim (set_get xs i y k z is) [ inl here ↦ inl (ap suc here.0, here.1) | inr other ↦ inr ((λ e. other.0 (omega arith)), other.1) ]

-- the item at a place of a list each of whose items holds something
pub item_read : {A : Type 0} (P : ℕ → A → Type 0) (items : List A) (k p : ℕ) (d : A) → k ≡ p → p < length items → ((q : ℕ) (x : A) → slice_get items q ≡ Some x → P q x) → P p (get_or items k d)
item_read P items k p d at low each = each p (get_or items k d) (subst (λ q. slice_get items q ≡ Some (get_or items k d)) at (slice_get-get_or items k d (omega arith)))

-- what holds of each item of a list and of one more at its end
pub each_pushed : {A : Type 0} (P : ℕ → A → Type 0) (xs : List A) (x : A) → ((p : ℕ) (y : A) → slice_get xs p ≡ Some y → P p y) → P (length xs) x → (p : ℕ) (y : A) → slice_get (xs ++ x ∷ []) p ≡ Some y → P p y
each_pushed P xs x held new p y at = by_test (p == length xs) refl
  where
    by_test : (t : Bool) → (p == length xs) ≡ t → P p y
    by_test true is =
        let here = eqb-true p (length xs) is in
        let same = same_some x y (sym (get_push_here xs p x here) ∙ at) in
        subst (λ q. P q y) (sym here) (subst (λ z. P (length xs) z) same new)
    by_test false is = held p y (sym (get_push_other xs p x (eqb-false p (length xs) is)) ∙ at)

-- in a loop over the places: the items below i hold what comes after the step, the others what came before it
abbrev pub HoldsUpto : {A : Type 0} → (ℕ → A → Type 0) → (ℕ → A → Type 0) → ℕ → List A → Type 0
HoldsUpto before after i items = (p : ℕ) (x : _) → slice_get items p ≡ Some x → (p < i → after p x) × (i ≤ p → before p x)

-- one place more
pub upto_next : {A : Type 0} (before after : ℕ → A → Type 0) (i k : ℕ) (items : List A) (d new : A) → k ≡ i → i < length items → (before i (get_or items k d) → after i new) → HoldsUpto before after i items → HoldsUpto before after (i + 1) (set items k new)
upto_next before after i k items d new at low step held p x there = elim (set_get items k new p x there) [
  | inl here ↦
      let found : slice_get items i ≡ Some (get_or items k d) = subst (λ q. slice_get items q ≡ Some (get_or items k d)) at (slice_get-get_or items k d (omega arith)) in
      let e = here.0 in (
        λ below. subst (λ q. after q x) (sym (here.0 ∙ at)) (subst (λ y. after i y) here.1 (step ((held i (get_or items k d) found).1 (omega arith)))),
        λ above. absurd (omega arith),
      )
  | inr other ↦ let kept = held p x other.1 in (λ below. kept.0 (let e = other.0 in elim (cases_lt p i) [ inl l ↦ l | inr g ↦ absurd (e (omega arith)) ]), λ above. kept.1 (omega arith))
]

-- after the last place
pub upto_all : {A : Type 0} (before after : ℕ → A → Type 0) (i : ℕ) (items : List A) → length items ≤ i → HoldsUpto before after i items → (p : ℕ) (x : A) → slice_get items p ≡ Some x → after p x
upto_all before after i items all held p x there = (held p x there).0 (let low = slice_get_within items p x there in omega arith)
