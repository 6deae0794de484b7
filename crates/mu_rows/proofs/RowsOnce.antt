-- Rows whose numbers count, client by client, stand once each.
use Rattle.std.proofs.Common.{◌≡◌, ◌∙◌, ℕ, suc, zero, ◌+◌, ◌<◌, ◌≤◌, ◌==◌, Bool, true, false, cond, List, [], ◌∷◌, Some, ap, arith, eqb-true, inl, inr, length, refl, sym, true≢false}
use Rattle.std.specs.Cmp.{IsEquivalence}
use Rattle.std.specs.List.{AllByRecursion, IsDistinct, list_any, slice_get}
use Rattle.std.proofs.Math.Dec.{eqb}
use Rattle.std.proofs.lemmas.Bool.{eq-eqb, false_from_ne_true, or_cases, or_left, or_right}
use Rattle.std.proofs.lemmas.Map.Keys.{IsDistinct-cons}
use Rattle.std.proofs.lemmas.Map.Made.{length-le_from_is_member}
use Rattle.std.proofs.lemmas.Map.Steps.{length-le_from_distinct_below}
use Rattle.kv_store.specs.Sessions.{CountsFrom}
use Rattle.mu_model.specs.declared.config.Config.{Config}
use Rattle.mu_model.specs.Contents.{client_of, number_of, numbers_in, rows_from}

-- the numbers of each client count from somewhere
abbrev pub Count : Config → List ℕ → Type 0
Count c js = (client : ℕ) → (first : ℕ) × CountsFrom first (numbers_in c client js)

-- no number of the client's rows is below the first one
above : (c : Config) (client first : ℕ) (js : List ℕ) (j : ℕ) → CountsFrom first (numbers_in c client js) → client_of c j ≡ client → list_any (eqb j) js ≡ true → first ≤ number_of c j
above c client first [] j counts own there = absurd (true≢false (sym there))
above c client first (k ∷ js) j counts own there = go (client_of c k == client) refl counts (λ n from inside. above c client n js j from own inside)
  where
    go : (t : Bool) → (client_of c k == client) ≡ t → CountsFrom first (cond t (number_of c k ∷ numbers_in c client js) (numbers_in c client js))
        → ((n : ℕ) → CountsFrom n (numbers_in c client js) → list_any (eqb j) js ≡ true → n ≤ number_of c j) → first ≤ number_of c j
    go true mine from again = elim (or_cases (eqb j k) (list_any (eqb j) js) there) [
      | inl e ↦ (let same = ap (number_of c) (eqb-true j k e) in let is = from.0 in omega (arith, same, is))
      | inr e ↦ (let more = again (first + 1) from.1 e in omega (arith, more))
    ]
    go false other from again = elim (or_cases (eqb j k) (list_any (eqb j) js) there) [
      | inl e ↦ absurd (true≢false (sym (eq-eqb (client_of c k) client (ap (client_of c) (sym (eqb-true j k e)) ∙ own)) ∙ other))
      | inr e ↦ again first from e
    ]

apart : (j : ℕ) (js : List ℕ) → (list_any (eqb j) js ≡ true → ⊥) → AllByRecursion (λ k. eqb j k ≡ false) js
apart j [] out = tt
apart j (k ∷ js) out = (false_from_ne_true (eqb j k) (λ e. out (or_left (eqb j k) (list_any (eqb j) js) e)), apart j js (λ e. out (or_right (eqb j k) (list_any (eqb j) js) e)))

rest_counts : (c : Config) (j : ℕ) (js : List ℕ) → Count c (j ∷ js) → Count c js
rest_counts c j js counts client = go (client_of c j == client) (counts client)
  where
    go : (t : Bool) → (first : ℕ) × CountsFrom first (cond t (number_of c j ∷ numbers_in c client js) (numbers_in c client js)) → (first : ℕ) × CountsFrom first (numbers_in c client js)
    go true from = (from.0 + 1, from.1.1)
    go false from = from

pub once : (c : Config) (js : List ℕ) → Count c js → IsDistinct eqb js
unfolding IsDistinct
once c [] counts = tt
once c (j ∷ js) counts = IsDistinct-cons eqb j js (apart j js out) (once c js (rest_counts c j js counts))
  where
    own : (t : Bool) → t ≡ true → (first : ℕ) × CountsFrom first (cond t (number_of c j ∷ numbers_in c (client_of c j) js) (numbers_in c (client_of c j) js)) → list_any (eqb j) js ≡ true → ⊥
    own true e from there =
        let is = from.1.0 in
        let more = above c (client_of c j) (from.0 + 1) js j from.1.1 refl there in
        absurd (omega (arith, is, more))
    own false e from there = absurd (true≢false (sym e))

    out : list_any (eqb j) js ≡ true → ⊥
    out there = own (client_of c j == client_of c j) (eq-eqb (client_of c j) (client_of c j) refl) (counts (client_of c j)) there

-- this many rows from one on stand once each
pub from_above : (n j q : ℕ) → list_any (eqb q) (rows_from n j) ≡ true → (j ≤ q) × (q < j + n)
from_above zero j q there = absurd (true≢false (sym there))
from_above (suc n) j q there = elim (or_cases (eqb q j) (list_any (eqb q) (rows_from n (j + 1))) there) [
  | inl e ↦ (let same = eqb-true q j e in (omega (arith, same), omega (arith, same)))
  | inr e ↦ (let more = from_above n (j + 1) q e in let low = more.0 in let high = more.1 in (omega (arith, low), omega (arith, high)))
]

from_once : (n j : ℕ) → IsDistinct eqb (rows_from n j)
unfolding IsDistinct
from_once zero j = tt
from_once (suc n) j = IsDistinct-cons eqb j (rows_from n (j + 1)) (apart j (rows_from n (j + 1)) (λ there. let low = (from_above n (j + 1) j there).0 in absurd (omega (arith, low)))) (from_once n (j + 1))

pub length-from : (n j : ℕ) → length (rows_from n j) ≡ n
length-from zero j = refl
length-from (suc n) j = ap suc (length-from n (j + 1))

equal : IsEquivalence eqb
equal = record {
  refl = λ x. eq-eqb x x refl;
  symm = λ x y. go x y (eqb x y) refl (eqb y x) refl;
  congr = λ x y z same. ap (λ w. eqb w z) (eqb-true x y same);
}
  where
    go : (x y : ℕ) (s : Bool) → eqb x y ≡ s → (t : Bool) → eqb y x ≡ t → eqb x y ≡ eqb y x
    go x y true is true si = is ∙ sym si
    go x y false is false si = is ∙ sym si
    go x y true is false si = absurd (true≢false (sym (eq-eqb y x (sym (eqb-true x y is))) ∙ si))
    go x y false is true si = absurd (true≢false (sym (eq-eqb x y (sym (eqb-true y x si))) ∙ is))

-- rows below a number that stand once each are no more
pub at_most : (n : ℕ) (js : List ℕ) → IsDistinct eqb js → ((q : ℕ) → list_any (eqb q) js ≡ true → q < n) → length js ≤ n
at_most n js all below = length-le_from_distinct_below js n all below

-- and fewer, if one is missing
pub fewer : (n q : ℕ) (js : List ℕ) → IsDistinct eqb js → ((k : ℕ) → list_any (eqb k) js ≡ true → k < n) → q < n → (list_any (eqb q) js ≡ true → ⊥) → length js < n
fewer n q js all below low out =
    let most = length-le_from_distinct_below (q ∷ js) n (IsDistinct-cons eqb q js (apart q js out) all) (λ k there. elim (or_cases (eqb k q) (list_any (eqb k) js) there) [
      | inl e ↦ (let same = eqb-true k q e in omega (arith, same, low))
      | inr e ↦ below k e
    ]) in
    omega (arith, most)

-- a list with all rows below a number has as many
pub at_least : (n : ℕ) (js : List ℕ) → ((q : ℕ) → q < n → list_any (eqb q) js ≡ true) → n ≤ length js
at_least n js all =
    let most = length-le_from_is_member equal (rows_from n 0) js (from_once n 0) (λ q there. all q (let low = (from_above n 0 q there).1 in omega (arith, low))) in
    let many = length-from n 0 in
    omega (arith, most, many)

-- where a row stands
pub place_of : (j : ℕ) (js : List ℕ) → list_any (eqb j) js ≡ true → (i : ℕ) × (slice_get js i ≡ Some j)
place_of j [] there = absurd (true≢false (sym there))
place_of j (k ∷ js) there = elim (or_cases (eqb j k) (list_any (eqb j) js) there) [
  | inl e ↦ (0, ap (λ x. Some x) (sym (eqb-true j k e)))
  | inr e ↦ (let at = place_of j js e in (suc at.0, at.1))
]

pub stands_at : (js : List ℕ) (i j : ℕ) → slice_get js i ≡ Some j → list_any (eqb j) js ≡ true
stands_at [] i j at = cc
stands_at (k ∷ js) zero j at = let same : k ≡ j = cc in or_left (eqb j k) (list_any (eqb j) js) (eq-eqb j k (sym same))
stands_at (k ∷ js) (suc i) j at = or_right (eqb j k) (list_any (eqb j) js) (stands_at js i j at)
