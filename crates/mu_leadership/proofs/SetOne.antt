-- One item of a list is replaced, and each other holds after it what it held before.
use Rattle.std.proofs.Common.{List, Some, arith, get_or, inl, inr, length, set, subst, sym, ℕ, ◌<◌, ◌≡◌, ◌≢◌, ◌≤◌, ◌∙◌}
use Rattle.std.specs.List.{slice_get}
use Rattle.std.proofs.lemmas.Option.{slice_get_within}
use Rattle.mu_model.proofs.Lists.{item_read, set_get}

-- the item at p is replaced
pub one_set : {A : Type 0} (before after : ℕ → A → Type 0) (k p : ℕ) (items : List A) (d new : A) → k ≡ p → p < length items → (before p (get_or items k d) → after p new) → ((q : ℕ) (x : A) → q ≢ p → before q x → after q x) → ((q : ℕ) (x : A) → slice_get items q ≡ Some x → before q x)
    → (q : ℕ) (x : A) → slice_get (set items k new) q ≡ Some x → after q x
one_set before after k p items d new at low step kept held q x there = elim (set_get items k new q x there) [
  | inl here ↦ subst (λ m. after m x) (sym (here.0 ∙ at)) (subst (λ y. after p y) here.1 (step (item_read before items k p d at low held)))
  | inr other ↦ kept q x (λ same. other.0 (same ∙ sym at)) (held q x other.1)
]

-- there is no item at p
pub none_set : {A : Type 0} (before after : ℕ → A → Type 0) (p : ℕ) (items : List A) → length items ≤ p → ((q : ℕ) (x : A) → q ≢ p → before q x → after q x) → ((q : ℕ) (x : A) → slice_get items q ≡ Some x → before q x) → (q : ℕ) (x : A) → slice_get items q ≡ Some x → after q x
none_set before after p items far kept held q x there = kept q x (λ same. let low = slice_get_within items q x there in omega (arith, low, far, same)) (held q x there)
