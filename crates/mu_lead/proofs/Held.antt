-- Whether entries hold all commands: no row is among theirs twice, so it is enough to count them.
use Rattle.std.proofs.Common.{Bool, List, [], ap, arith, eqb-true, eq-eqb, false, inl, inr, length, refl, subst, suc, sym, true, true≢false, zero, ℕ, ◌%◌, ◌++◌, ◌+◌, ◌<◌, ◌==◌, ◌∙◌, ◌∷◌, ◌≡◌, ◌≤◌}
use Rattle.std.specs.Prelude.{if◌then◌else◌, ◌⊎◌}
use Rattle.std.specs.List.{AllByRecursion, IsDistinct, list_any}
use Rattle.std.proofs.Math.Dec.{eqb}
use Rattle.std.proofs.lemmas.Bool.{false_from_ne_true, ne_eqb, or_cases}
use Rattle.std.proofs.lemmas.Map.Keys.{IsDistinct-cons}
use Rattle.std.proofs.lemmas.Map.Steps.{length-le_from_distinct_below}
use Rattle.mu_model.specs.declared.config.Config.{Config}
use Rattle.mu_model.specs.Contents.{IsConfig, IsInSession, client_of, counted, holds_all, includes, is_batch, number_of, numbers_in, rest_of, row_count, rows_from, rows_in, rows_of, session}
use Rattle.mu_model.proofs.Basics.{same_number}
use Rattle.mu_model.proofs.Scans.{all_at}
use Rattle.mu_agree.proofs.Sessions.{row_within}
use Rattle.mu_agree.proofs.Sound.{Failing, some_fails}
use Rattle.mu_lead.proofs.Due.{last_there}

-- no number is in the list twice
abbrev AreApart : List ℕ → Type 0
AreApart [] = Unit {0}
AreApart (x ∷ xs) = (includes x xs ≡ false) × AreApart xs

counted_above : (n k m : ℕ) → includes m (counted n k) ≡ true → k ≤ m
counted_above zero k m there = absurd (true≢false (sym there))
counted_above (suc n) k m there = go (k == m) refl there (counted_above n (k + 1) m)
  where
    go : (t : Bool) → (k == m) ≡ t → (if t then true else includes m (counted n (k + 1))) ≡ true → (includes m (counted n (k + 1)) ≡ true → k + 1 ≤ m) → k ≤ m
    go true is there rest = let same = eqb-true k m is in omega (arith, same)
    go false is there rest = let low = rest there in omega (arith, low)

counted_apart : (n k : ℕ) → AreApart (counted n k)
counted_apart zero k = tt
counted_apart (suc n) k = (go (includes k (counted n (k + 1))) refl, counted_apart n (k + 1))
  where
    go : (t : Bool) → includes k (counted n (k + 1)) ≡ t → t ≡ false
    go false is = refl
    go true is = absurd (let low = counted_above n (k + 1) k is in omega (arith, low))

-- the number of a row that is there is there
number_there : (c : Config) (j : ℕ) (rows : List ℕ) → includes j rows ≡ true → includes (number_of c j) (numbers_in c (client_of c j) rows) ≡ true
number_there c j [] there = absurd (true≢false (sym there))
number_there c j (i ∷ rows) there = go (i == j) refl there (number_there c j rows)
  where
    here : (k : ℕ) → k ≡ j → includes (number_of c j) (if client_of c k == client_of c j then (number_of c k ∷ numbers_in c (client_of c j) rows) else numbers_in c (client_of c j) rows) ≡ true
    here k is = subst (λ z. includes (number_of c j) (if client_of c z == client_of c j then (number_of c z ∷ numbers_in c (client_of c j) rows) else numbers_in c (client_of c j) rows) ≡ true) (sym is) (rw (same_number (client_of c j), same_number (number_of c j)) refl)

    later : (t : Bool) → includes (number_of c j) (numbers_in c (client_of c j) rows) ≡ true → includes (number_of c j) (if t then (number_of c i ∷ numbers_in c (client_of c j) rows) else numbers_in c (client_of c j) rows) ≡ true
    later true is = further (number_of c i == number_of c j) is
      where
        further : (u : Bool) → includes (number_of c j) (numbers_in c (client_of c j) rows) ≡ true → (if u then true else includes (number_of c j) (numbers_in c (client_of c j) rows)) ≡ true
        further true is = refl
        further false is = is
    later false is = is

    go : (t : Bool) → (i == j) ≡ t → (if t then true else includes j rows) ≡ true → (includes j rows ≡ true → includes (number_of c j) (numbers_in c (client_of c j) rows) ≡ true) → includes (number_of c j) (numbers_in c (client_of c j) (i ∷ rows)) ≡ true
    go true is there rest = here i (eqb-true i j is)
    go false is there rest = later (client_of c i == client_of c j) (rest there)

-- if no client has a number twice no row is there twice
rows_apart : (c : Config) (rows : List ℕ) → ((client : ℕ) → AreApart (numbers_in c client rows)) → AreApart rows
rows_apart c [] apart = tt
rows_apart c (x ∷ rows) apart = (go (includes x rows) refl, rows_apart c rows (λ client. less client (client_of c x == client) (apart client)))
  where
    first : AreApart (number_of c x ∷ numbers_in c (client_of c x) rows)
    first = rw (same_number (client_of c x)) at (apart (client_of c x))

    less : (client : ℕ) (t : Bool) → AreApart (if t then (number_of c x ∷ numbers_in c client rows) else numbers_in c client rows) → AreApart (numbers_in c client rows)
    less client true a = a.1
    less client false a = a

    go : (t : Bool) → includes x rows ≡ t → t ≡ false
    go false is = refl
    go true is = absurd (true≢false (sym (number_there c x rows is) ∙ first.0))

numbers_append : (c : Config) (client : ℕ) (xs ys : List ℕ) → numbers_in c client (xs ++ ys) ≡ numbers_in c client xs ++ numbers_in c client ys
numbers_append c client [] ys = refl
numbers_append c client (x ∷ xs) ys = go (client_of c x == client) (numbers_append c client xs ys)
  where
    go : (t : Bool) → numbers_in c client (xs ++ ys) ≡ numbers_in c client xs ++ numbers_in c client ys
        → (if t then (number_of c x ∷ numbers_in c client (xs ++ ys)) else numbers_in c client (xs ++ ys)) ≡ (if t then (number_of c x ∷ numbers_in c client xs) else numbers_in c client xs) ++ numbers_in c client ys
    go true is = ap (λ zs. number_of c x ∷ zs) is
    go false is = is

session_is : (c : Config) (client : ℕ) (values : List ℕ) → session c client values ≡ numbers_in c client (rows_in c values)
session_is c client [] = refl
session_is c client (v ∷ values) = ap (λ zs. numbers_in c client (rows_of c v) ++ zs) (session_is c client values) ∙ sym (numbers_append c client (rows_of c v) (rows_in c values))

session_apart : (c : Config) (values : List ℕ) → IsInSession c values → AreApart (rows_in c values)
session_apart c values s = rows_apart c (rows_in c values) (λ client. subst AreApart (sym (s client) ∙ session_is c client values) (counted_apart (length (session c client values)) 1))

distinct_from : (xs : List ℕ) → AreApart xs → IsDistinct eqb xs
unfolding IsDistinct
distinct_from [] apart = tt
distinct_from (x ∷ xs) apart = IsDistinct-cons eqb x xs (others xs apart.0) (distinct_from xs apart.1)
  where
    others : (ys : List ℕ) → includes x ys ≡ false → AllByRecursion (λ y. eqb x y ≡ false) ys
    others [] none = tt
    others (y ∷ ys) none = let both = parts (y == x) none in (false_from_ne_true (eqb x y) (λ is. true≢false (sym (eq-eqb y x (sym (eqb-true x y is))) ∙ both.0)), others ys both.1)
      where
        parts : (t : Bool) → (if t then true else includes x ys) ≡ false → (t ≡ false) × (includes x ys ≡ false)
        parts true none = absurd (true≢false none)
        parts false none = (refl, none)

among : (q : ℕ) (xs : List ℕ) → list_any (eqb q) xs ≡ true → includes q xs ≡ true
among q [] is = absurd (true≢false (sym is))
among q (x ∷ xs) is = elim (or_cases (eqb q x) (list_any (eqb q) xs) is) [
  | inl here ↦ first (x == q) (eq-eqb x q (sym (eqb-true q x here)))
  | inr there ↦ later (x == q) (among q xs there)
]
  where
    first : (t : Bool) → t ≡ true → (if t then true else includes q xs) ≡ true
    first true is = refl
    first false is = absurd (true≢false (sym is))

    later : (t : Bool) → includes q xs ≡ true → (if t then true else includes q xs) ≡ true
    later true is = refl
    later false is = is

-- the rows of entries are rows
from_below : (n j i : ℕ) → includes i (rows_from n j) ≡ true → i < j + n
from_below zero j i there = absurd (true≢false (sym there))
from_below (suc n) j i there = go (j == i) refl there (from_below n (j + 1) i)
  where
    go : (t : Bool) → (j == i) ≡ t → (if t then true else includes i (rows_from n (j + 1))) ≡ true → (includes i (rows_from n (j + 1)) ≡ true → i < j + 1 + n) → i < j + suc n
    go true is there rest = let same = eqb-true j i is in omega (arith, same)
    go false is there rest = let low = rest there in omega (arith, low)

either : (q : ℕ) (xs ys : List ℕ) → includes q (xs ++ ys) ≡ true → (includes q xs ≡ true) ⊎ (includes q ys ≡ true)
either q [] ys is = inr is
either q (x ∷ xs) ys is = go (x == q) is (either q xs ys)
  where
    go : (t : Bool) → (if t then true else includes q (xs ++ ys)) ≡ true → (includes q (xs ++ ys) ≡ true → (includes q xs ≡ true) ⊎ (includes q ys ≡ true)) → ((if t then true else includes q xs) ≡ true) ⊎ (includes q ys ≡ true)
    go true is rest = inl refl
    go false is rest = rest is

of_batch : (c : Config) (v q : ℕ) → IsConfig c → includes q (rows_of c v) ≡ true → q < row_count c
of_batch c v q config there = go (is_batch c v) refl there
  where
    go : (t : Bool) → is_batch c v ≡ t → includes q (if t then rows_from (rest_of c (v % 4096) + 1) (v % 4096) else []) ≡ true → q < row_count c
    go false is there = absurd (true≢false (sym there))
    go true is there =
        let low = from_below (rest_of c (v % 4096) + 1) (v % 4096) q there in
        let last = last_there c (v % 4096) (rest_of c (v % 4096)) config (row_within c v is) refl in omega (arith, low, last)

rows_below : (c : Config) (values : List ℕ) (q : ℕ) → IsConfig c → includes q (rows_in c values) ≡ true → q < row_count c
rows_below c [] q config there = absurd (true≢false (sym there))
rows_below c (v ∷ values) q config there = elim (either q (rows_of c v) (rows_in c values) there) [
  | inl here ↦ of_batch c v q config here
  | inr later ↦ rows_below c values q config later
]

-- a list without one of its numbers
abbrev without : ℕ → List ℕ → List ℕ
without j [] = []
without j (x ∷ xs) = if x == j then xs else (x ∷ without j xs)

without_length : (j : ℕ) (xs : List ℕ) → includes j xs ≡ true → length xs ≡ length (without j xs) + 1
without_length j [] there = absurd (true≢false (sym there))
without_length j (x ∷ xs) there = go (x == j) there (without_length j xs)
  where
    go : (t : Bool) → (if t then true else includes j xs) ≡ true → (includes j xs ≡ true → length xs ≡ length (without j xs) + 1) → suc (length xs) ≡ length (if t then xs else (x ∷ without j xs)) + 1
    go true there rest = omega arith
    go false there rest = let long = rest there in omega (arith, long)

without_others : (i j : ℕ) (xs : List ℕ) → (i == j) ≡ false → includes i xs ≡ true → includes i (without j xs) ≡ true
without_others i j [] other there = there
without_others i j (x ∷ xs) other there = go (x == j) refl (x == i) refl there (without_others i j xs other)
  where
    go : (t : Bool) → (x == j) ≡ t → (u : Bool) → (x == i) ≡ u → (if u then true else includes i xs) ≡ true → (includes i xs ≡ true → includes i (without j xs) ≡ true) → includes i (if t then xs else (x ∷ without j xs)) ≡ true
    go true here true is there rest = absurd (true≢false (sym (eq-eqb i j (sym (eqb-true x i is) ∙ eqb-true x j here)) ∙ other))
    go true here false is there rest = there
    go false here true is there rest = rw is refl
    go false here false is there rest = rw is (rest there)

-- a list with all numbers below n has as many
long_enough : (n : ℕ) (xs : List ℕ) → ((j : ℕ) → j < n → includes j xs ≡ true) → n ≤ length xs
long_enough zero xs all = omega arith
long_enough (suc n) xs all =
    let rest = long_enough n (without n xs) (λ j low. without_others j n xs (ne_eqb j n (λ same. absurd (omega (arith, low, same)))) (all j (omega (arith, low)))) in
    let long = without_length n xs (all n (omega arith)) in omega (arith, rest, long)

-- in session, the entries hold all commands if they have as many rows as there are
pub all_held : (c : Config) (values : List ℕ) → IsConfig c → IsInSession c values → (length (rows_in c values) == row_count c) ≡ holds_all c values
all_held c values config s = go (holds_all c values) refl
  where
    apart : AreApart (rows_in c values)
    apart = session_apart c values s

    go : (t : Bool) → holds_all c values ≡ t → (length (rows_in c values) == row_count c) ≡ t
    go true all =
        let few = length-le_from_distinct_below (rows_in c values) (row_count c) (distinct_from (rows_in c values) apart) (λ q is. rows_below c values q config (among q (rows_in c values) is)) in
        let many = long_enough (row_count c) (rows_in c values) (λ j low. all_at (row_count c) (λ i. includes i (rows_in c values)) all j low) in
        eq-eqb (length (rows_in c values)) (row_count c) (omega (arith, few, many))
    go false lacks = ne_eqb (length (rows_in c values)) (row_count c) (λ same. absurd (none same))
      where
        none : length (rows_in c values) ≡ row_count c → ⊥
        none same =
            let f = some_fails (row_count c) (λ i. includes i (rows_in c values)) lacks in
            let more = length-le_from_distinct_below (f.who ∷ rows_in c values) (row_count c) (distinct_from (f.who ∷ rows_in c values) (f.fails, apart)) (λ q is. below f q (among q (f.who ∷ rows_in c values) is)) in
            omega (arith, more, same)
          where
            below : (f : Failing (row_count c) (λ i. includes i (rows_in c values))) (q : ℕ) → includes q (f.who ∷ rows_in c values) ≡ true → q < row_count c
            below f q is = by_test (f.who == q) refl is
              where
                by_test : (t : Bool) → (f.who == q) ≡ t → (if t then true else includes q (rows_in c values)) ≡ true → q < row_count c
                by_test true here is = let same = eqb-true f.who q here in let low = f.below in omega (arith, same, low)
                by_test false here is = rows_below c values q config is
