-- The rounds of a replay after its last pause: each replica that goes on takes one step in each, and the others none.
use Rattle.std.proofs.Common.{◌≡◌, ◌∙◌, ◌≢◌, ◌⊎◌, ℕ, zero, suc, ◌+◌, ◌<◌, ◌≤◌, ◌==◌, ◌&&◌, not, inl, inr, Bool, true, false, cond, List, [], ◌∷◌, ◌++◌, ap, append_assoc, arith, length, map, refl, subst, sym, true≢false, eqb-true, append-nil}
use Rattle.std.specs.Prelude.{if◌then◌else◌, nat_lt, reverse, slice_index}
use Rattle.std.proofs.lemmas.Bool.{cases_eq, cases_lt, eq-eqb, le-ltb, lt-ltb, ltb-true, ltb-false, ne_eqb}
use Rattle.std.proofs.lemmas.List.{reverse-append}
use Rattle.mu_model.specs.declared.event.Event.{Event}
use Rattle.mu_model.specs.declared.script.Pause.{Pause}
use Rattle.mu_model.specs.Histories.{part}
use Rattle.mu_outcome.specs.Turns.{Pace, ids_after, ids_in_round, is_due, pace, pace_after, rounds_paused}
use Rattle.mu_cluster.specs.Pausing.{PausesBy}
use Rattle.mu_cluster.specs.Rounds.{id_of}
use Rattle.mu_enough.specs.Lines.{paused_rounds}

-- how many rounds r waits before it has taken m steps
abbrev waits_before : List Pause → ℕ → ℕ → ℕ
waits_before pauses r zero = 0
waits_before pauses r (suc m) = waits_before pauses r m + rounds_paused pauses r m

no_waits : (r m : ℕ) → waits_before [] r m ≡ 0
no_waits r zero = refl
no_waits r (suc m) = let ih = no_waits r m in omega (arith, ih)

one_pause : (p : Pause) (ps : List Pause) (r m : ℕ) → (m ≤ p.steps → waits_before (p ∷ ps) r m ≤ waits_before ps r m) × (waits_before (p ∷ ps) r m ≤ waits_before ps r m + (if p.replica == r then p.rounds else 0))
one_pause p ps r zero = (λ _. omega arith, omega arith)
one_pause p ps r (suc m) = go (p.replica == r) (p.steps == m) refl (one_pause p ps r m)
  where
    go : (t u : Bool) → (p.steps == m) ≡ u → (m ≤ p.steps → waits_before (p ∷ ps) r m ≤ waits_before ps r m) × (waits_before (p ∷ ps) r m ≤ waits_before ps r m + (if t then p.rounds else 0))
        → (suc m ≤ p.steps → waits_before (p ∷ ps) r m + (if t && u then p.rounds else rounds_paused ps r m) ≤ waits_before ps r m + rounds_paused ps r m) × (waits_before (p ∷ ps) r m + (if t && u then p.rounds else rounds_paused ps r m) ≤ waits_before ps r m + rounds_paused ps r m + (if t then p.rounds else 0))
    go true true here ih = let at = eqb-true p.steps m here in let l = ih.0 (omega (arith, at)) in (λ below. absurd (omega (arith, below, at)), omega (arith, l))
    go true false here ih = let l = ih.1 in (λ below. (let k = ih.0 (omega (arith, below)) in omega (arith, k)), omega (arith, l))
    go false u here ih = let l = ih.1 in (λ below. (let k = ih.0 (omega (arith, below)) in omega (arith, k)), omega (arith, l))

few_waits : (pauses : List Pause) (r m : ℕ) → waits_before pauses r m ≤ paused_rounds pauses r
few_waits [] r m = let none = no_waits r m in omega (arith, none)
few_waits (p ∷ ps) r m = let ih = few_waits ps r m in let one = (one_pause p ps r m).1 in omega (arith, ih, one)

-- how far a replica is after some rounds
record Paced (pauses : List Pause) (r all t : ℕ) (at : Pace) : Type 0 where
  fits : at.taken ≤ all
  most : at.taken ≤ t
  waited : t ≤ at.taken + waits_before pauses r at.taken + at.waited
  few : at.taken < all → at.waited ≤ rounds_paused pauses r at.taken

paced : (pauses : List Pause) (r all t : ℕ) → Paced pauses r all t (pace pauses r all t)
paced pauses r all zero = record { fits = omega arith; most = omega arith; waited = omega arith; few = λ _. omega arith }
paced pauses r all (suc t) = go (nat_lt at.taken all) refl (nat_lt at.waited (rounds_paused pauses r at.taken)) refl (paced pauses r all t)
  where
    at : Pace
    at = pace pauses r all t

    go : (x : Bool) → nat_lt at.taken all ≡ x → (y : Bool) → nat_lt at.waited (rounds_paused pauses r at.taken) ≡ y → Paced pauses r all t at → Paced pauses r all (suc t) (pace_after (x && not y) at)
    go true left false over k =
        let low = ltb-true at.taken all left in
        let f = k.few low in let w = k.waited in let m = k.most in
        record { fits = omega (arith, low); most = omega (arith, m); waited = (let next : waits_before pauses r (at.taken + 1) ≡ waits_before pauses r at.taken + rounds_paused pauses r at.taken = ap (waits_before pauses r) (let e : at.taken + 1 ≡ suc at.taken = omega arith in e) in omega (arith, f, w, next)); few = λ _. omega arith }
    go true left true held k =
        let low = ltb-true at.waited (rounds_paused pauses r at.taken) held in
        let w = k.waited in let m = k.most in
        record { fits = k.fits; most = omega (arith, m); waited = omega (arith, w); few = λ _. omega (arith, low) }
    go false done y held k =
        let high = ltb-false at.taken all done in
        let w = k.waited in let m = k.most in
        record { fits = k.fits; most = omega (arith, m); waited = omega (arith, w); few = λ less. absurd (omega (arith, less, high)) }

-- after these rounds it has taken more than k steps, or all
got_far : (pauses : List Pause) (r all k t : ℕ) → k + paused_rounds pauses r < t → (pace pauses r all t).taken < all → k < (pace pauses r all t).taken
got_far pauses r all k t late left = elim (cases_lt k (pace pauses r all t).taken) [
  | inl more ↦ more
  | inr less ↦
      let at = paced pauses r all t in
      let w = at.waited in
      let f = at.few left in
      let all_waits = few_waits pauses r (suc (pace pauses r all t).taken) in
      absurd (omega (arith, w, f, all_waits, less, late))
]

-- no pause begins after step k
none_paused : (pauses : List Pause) (r k i : ℕ) → PausesBy pauses k → k < i → rounds_paused pauses r i ≡ 0
none_paused [] r k i by more = refl
none_paused (p ∷ ps) r k i by more = ap (λ t. if t then p.rounds else rounds_paused ps r i) (shut (p.replica == r) (p.steps == i) (ne_eqb p.steps i (λ same. (let l = by.0 in omega (arith, same, l, more))))) ∙ none_paused ps r k i by.1 more
  where
    shut : (t u : Bool) → u ≡ false → (t && u) ≡ false
    shut true u h = h
    shut false u h = refl

pub due_then : (pauses : List Pause) (r all k t : ℕ) → PausesBy pauses k → k + paused_rounds pauses r < t → t < all → is_due pauses r all (pace pauses r all t) ≡ true
due_then pauses r all k t by late left =
    let at = paced pauses r all t in
    let m = at.most in
    let low : (pace pauses r all t).taken < all = omega (arith, m, left) in
    let far = got_far pauses r all k t late low in
    ap (λ b. b && not (nat_lt (pace pauses r all t).waited (rounds_paused pauses r (pace pauses r all t).taken))) (lt-ltb (pace pauses r all t).taken all low)
    ∙ ap not (le-ltb (pace pauses r all t).waited (rounds_paused pauses r (pace pauses r all t).taken) (let none = none_paused pauses r k (pace pauses r all t).taken by far in omega (arith, none)))

-- one that takes at most k steps takes none then
pub idle_then : (pauses : List Pause) (r all k t : ℕ) → all ≤ k → k + paused_rounds pauses r < t → is_due pauses r all (pace pauses r all t) ≡ false
idle_then pauses r all k t short late = ap (λ b. b && not (nat_lt (pace pauses r all t).waited (rounds_paused pauses r (pace pauses r all t).taken))) (le-ltb (pace pauses r all t).taken all high)
  where
    high : all ≤ (pace pauses r all t).taken
    high = elim (cases_lt (pace pauses r all t).taken all) [
      | inl less ↦ (let far = got_far pauses r all k t late less in absurd (omega (arith, far, less, short)))
      | inr more ↦ more
    ]

-- a replica has taken at most as many steps as rounds
pub few_rounds : (pauses : List Pause) (r all t : ℕ) → (pace pauses r all t).taken ≤ t
few_rounds pauses r all t = (paced pauses r all t).most

-- the ids of some rounds from one on
abbrev pub ids_from : List Pause → List ℕ → ℕ → ℕ → List ℕ
ids_from pauses lengths t zero = []
ids_from pauses lengths t (suc x) = ids_from pauses lengths t x ++ ids_in_round pauses lengths (t + x) (length lengths)

pub ids_split : (pauses : List Pause) (lengths : List ℕ) (t x : ℕ) → ids_after pauses lengths (t + x) ≡ ids_after pauses lengths t ++ ids_from pauses lengths t x
ids_split pauses lengths t zero = ap (ids_after pauses lengths) (let e : t + 0 ≡ t = omega arith in e) ∙ sym (append-nil (ids_after pauses lengths t))
ids_split pauses lengths t (suc x) =
    ap (ids_after pauses lengths) (let e : t + suc x ≡ suc (t + x) = omega arith in e)
    ∙ ap (λ l. l ++ ids_in_round pauses lengths (t + x) (length lengths)) (ids_split pauses lengths t x)
    ∙ append_assoc (ids_after pauses lengths t) (ids_from pauses lengths t x) (ids_in_round pauses lengths (t + x) (length lengths))

pub from_split : (pauses : List Pause) (lengths : List ℕ) (t x y : ℕ) → ids_from pauses lengths t (x + y) ≡ ids_from pauses lengths t x ++ ids_from pauses lengths (t + x) y
from_split pauses lengths t x zero = ap (ids_from pauses lengths t) (let e : x + 0 ≡ x = omega arith in e) ∙ sym (append-nil (ids_from pauses lengths t x))
from_split pauses lengths t x (suc y) =
    ap (ids_from pauses lengths t) (let e : x + suc y ≡ suc (x + y) = omega arith in e)
    ∙ ap (λ n. ids_from pauses lengths t (x + y) ++ ids_in_round pauses lengths n (length lengths)) (let e : t + (x + y) ≡ t + x + y = omega arith in e)
    ∙ ap (λ l. l ++ ids_in_round pauses lengths (t + x + y) (length lengths)) (from_split pauses lengths t x y)
    ∙ append_assoc (ids_from pauses lengths t x) (ids_from pauses lengths (t + x) y) (ids_in_round pauses lengths (t + x + y) (length lengths))

-- how often an id is among these
abbrev pub count_of : ℕ → List ℕ → ℕ
count_of s [] = 0
count_of s (i ∷ ids) = cond (i == s) (count_of s ids + 1) (count_of s ids)

count_append : (s : ℕ) (xs ys : List ℕ) → count_of s (xs ++ ys) ≡ count_of s xs + count_of s ys
count_append s [] ys = omega arith
count_append s (i ∷ xs) ys = go (i == s) (count_append s xs ys)
  where
    go : (t : Bool) → count_of s (xs ++ ys) ≡ count_of s xs + count_of s ys → cond t (count_of s (xs ++ ys) + 1) (count_of s (xs ++ ys)) ≡ cond t (count_of s xs + 1) (count_of s xs) + count_of s ys
    go true ih = omega (arith, ih)
    go false ih = ih

pub count_part : (s : ℕ) (past : List Event) → count_of s (map id_of past) ≡ length (part s past)
count_part s [] = refl
count_part s (e ∷ past) = go (e.by == s) (count_part s past)
  where
    go : (t : Bool) → count_of s (map id_of past) ≡ length (part s past) → cond t (count_of s (map id_of past) + 1) (count_of s (map id_of past)) ≡ length (cond t (e ∷ part s past) (part s past))
    go true ih = omega (arith, ih)
    go false ih = ih

-- whether a replica takes a step in a round
abbrev pub due_in : List Pause → List ℕ → ℕ → ℕ → Bool
due_in pauses lengths t r = is_due pauses r (slice_index lengths r) (pace pauses r (slice_index lengths r) t)

count_round : (pauses : List Pause) (lengths : List ℕ) (t s m : ℕ) → (m ≤ s → count_of s (ids_in_round pauses lengths t m) ≡ 0) × (s < m → count_of s (ids_in_round pauses lengths t m) ≡ cond (due_in pauses lengths t s) 1 0)
count_round pauses lengths t s zero = (λ _. refl, λ low. absurd (omega (arith, low)))
count_round pauses lengths t s (suc m) = let ih = count_round pauses lengths t s m in (high ih.0, low ih.0 ih.1)
  where
    sum : count_of s (ids_in_round pauses lengths t (suc m)) ≡ count_of s (ids_in_round pauses lengths t m) + count_of s (if due_in pauses lengths t m then m ∷ [] else [])
    sum = count_append s (ids_in_round pauses lengths t m) (if due_in pauses lengths t m then m ∷ [] else [])

    other : m ≢ s → (b : Bool) → count_of s (if b then m ∷ [] else []) ≡ 0
    other differs true = ap (λ u. cond u 1 0) (ne_eqb m s differs)
    other differs false = refl

    own : (b : Bool) → count_of m (if b then m ∷ [] else []) ≡ cond b 1 0
    own true = ap (λ u. cond u 1 0) (eq-eqb m m refl)
    own false = refl

    high : (m ≤ s → count_of s (ids_in_round pauses lengths t m) ≡ 0) → suc m ≤ s → count_of s (ids_in_round pauses lengths t (suc m)) ≡ 0
    high none above = let a = none (omega (arith, above)) in let b = other (λ same. omega (arith, same, above)) (due_in pauses lengths t m) in omega (arith, sum, a, b)

    low : (m ≤ s → count_of s (ids_in_round pauses lengths t m) ≡ 0) → (s < m → count_of s (ids_in_round pauses lengths t m) ≡ cond (due_in pauses lengths t s) 1 0) → s < suc m → count_of s (ids_in_round pauses lengths t (suc m)) ≡ cond (due_in pauses lengths t s) 1 0
    low none some below = elim (cases_eq m s) [
      | inl same ↦ (let a = none (omega (arith, same)) in let b = subst (λ i. count_of i (if due_in pauses lengths t m then m ∷ [] else []) ≡ cond (due_in pauses lengths t i) 1 0) same (own (due_in pauses lengths t m)) in omega (arith, sum, a, b))
      | inr differs ↦ (let a = some (omega (arith, below, differs)) in let b = other differs (due_in pauses lengths t m) in omega (arith, sum, a, b))
    ]

-- in rounds in which it is due each time it takes as many steps, and none if it never is
pub count_due : (pauses : List Pause) (lengths : List ℕ) (t s x : ℕ) → s < length lengths → ((y : ℕ) → y < x → due_in pauses lengths (t + y) s ≡ true) → count_of s (ids_from pauses lengths t x) ≡ x
count_due pauses lengths t s zero low due = refl
count_due pauses lengths t s (suc x) low due =
    let ih = count_due pauses lengths t s x low (λ y less. due y (omega (arith, less))) in
    let one = (count_round pauses lengths (t + x) s (length lengths)).1 low ∙ ap (λ b. cond b 1 0) (due x (omega arith)) in
    let sum = count_append s (ids_from pauses lengths t x) (ids_in_round pauses lengths (t + x) (length lengths)) in
    omega (arith, ih, one, sum)

pub count_idle : (pauses : List Pause) (lengths : List ℕ) (t s x : ℕ) → s < length lengths → ((y : ℕ) → y < x → due_in pauses lengths (t + y) s ≡ false) → count_of s (ids_from pauses lengths t x) ≡ 0
count_idle pauses lengths t s zero low idle = refl
count_idle pauses lengths t s (suc x) low idle =
    let ih = count_idle pauses lengths t s x low (λ y less. idle y (omega (arith, less))) in
    let none = (count_round pauses lengths (t + x) s (length lengths)).1 low ∙ ap (λ b. cond b 1 0) (idle x (omega arith)) in
    let sum = count_append s (ids_from pauses lengths t x) (ids_in_round pauses lengths (t + x) (length lengths)) in
    omega (arith, ih, none, sum)

-- of these ids x and y take turns, x first
abbrev next_of : Bool → Bool → Type 0 → Type 0 → Type 0
next_of true u taken passed = taken
next_of false true taken passed = ⊥
next_of false false taken passed = passed

abbrev pub Alternate : ℕ → ℕ → List ℕ → Type 0
Alternate x y [] = Unit {0}
Alternate x y (i ∷ ids) = next_of (i == x) (i == y) (Alternate y x ids) (Alternate x y ids)

-- so in each stretch one takes at most one step more
record Even (x y : ℕ) (window rest : List Event) : Type 0 where
  near : (length (part x window) ≤ length (part y window) + 1) × (length (part y window) ≤ length (part x window) + 1)
  on : Alternate x y (map id_of rest) ⊎ Alternate y x (map id_of rest)

data Turns (x y : ℕ) (window rest : List Event) : Type 0 where
  level : length (part x window) ≡ length (part y window) → Alternate x y (map id_of rest) → Turns x y window rest
  ahead : length (part x window) ≡ length (part y window) + 1 → Alternate y x (map id_of rest) → Turns x y window rest

turns_of : (x y : ℕ) (window rest : List Event) → x ≢ y → Alternate x y (map id_of (window ++ rest)) → Turns x y window rest
turns_of x y [] rest other alt = Turns.level refl alt
turns_of x y (e ∷ window) rest other alt = go (e.by == x) refl (e.by == y) refl (λ a. turns_of y x window rest (λ same. other (sym same)) a) (λ a. turns_of x y window rest other a) alt
  where
    go : (t : Bool) → (e.by == x) ≡ t → (u : Bool) → (e.by == y) ≡ u → (Alternate y x (map id_of (window ++ rest)) → Turns y x window rest) → (Alternate x y (map id_of (window ++ rest)) → Turns x y window rest) → next_of t u (Alternate y x (map id_of (window ++ rest))) (Alternate x y (map id_of (window ++ rest))) → Turns x y (e ∷ window) rest
    go true ht u hu taken passed alt = first (taken alt)
      where
        here : length (part x (e ∷ window)) ≡ length (part x window) + 1
        here = ap (λ t. length (cond t (e ∷ part x window) (part x window))) ht ∙ (let e : suc (length (part x window)) ≡ length (part x window) + 1 = omega arith in e)

        none : length (part y (e ∷ window)) ≡ length (part y window)
        none = ap (λ t. length (cond t (e ∷ part y window) (part y window))) (ne_eqb e.by y (λ same. other (sym (eqb-true e.by x ht) ∙ same)))

        first : Turns y x window rest → Turns x y (e ∷ window) rest
        first (Turns.level same alt) = Turns.ahead (let h = here in let n = none in omega (arith, h, n, same)) alt
        first (Turns.ahead more alt) = Turns.level (let h = here in let n = none in omega (arith, h, n, more)) alt
    go false ht true hu taken passed alt = absurd alt
    go false ht false hu taken passed alt = same (passed alt)
      where
        no_x : length (part x (e ∷ window)) ≡ length (part x window)
        no_x = ap (λ t. length (cond t (e ∷ part x window) (part x window))) ht

        no_y : length (part y (e ∷ window)) ≡ length (part y window)
        no_y = ap (λ t. length (cond t (e ∷ part y window) (part y window))) hu

        same : Turns x y window rest → Turns x y (e ∷ window) rest
        same (Turns.level is alt) = Turns.level (let a = no_x in let b = no_y in omega (arith, a, b, is)) alt
        same (Turns.ahead more alt) = Turns.ahead (let a = no_x in let b = no_y in omega (arith, a, b, more)) alt

even : (x y : ℕ) (window rest : List Event) → x ≢ y → Alternate x y (map id_of (window ++ rest)) ⊎ Alternate y x (map id_of (window ++ rest)) → Even x y window rest
even x y window rest other (inl alt) = go (turns_of x y window rest other alt)
  where
    go : Turns x y window rest → Even x y window rest
    go (Turns.level is alt) = record { near = (omega (arith, is), omega (arith, is)); on = inl alt }
    go (Turns.ahead is alt) = record { near = (omega (arith, is), omega (arith, is)); on = inr alt }
even x y window rest other (inr alt) = go (turns_of y x window rest (λ same. other (sym same)) alt)
  where
    go : Turns y x window rest → Even x y window rest
    go (Turns.level is alt) = record { near = (omega (arith, is), omega (arith, is)); on = inr alt }
    go (Turns.ahead is alt) = record { near = (omega (arith, is), omega (arith, is)); on = inl alt }

pub even_in : (x y : ℕ) (newer window older : List Event) → x ≢ y → Alternate x y (map id_of (newer ++ (window ++ older))) ⊎ Alternate y x (map id_of (newer ++ (window ++ older))) → length (part x window) ≤ length (part y window) + 1
even_in x y newer window older other alt = (even x y window older other (even x y newer (window ++ older) other alt).on).near.0

-- one round of ids, the last one first
abbrev backward : List Pause → List ℕ → ℕ → ℕ → List ℕ
backward pauses lengths t m = reverse (ids_in_round pauses lengths t m)

backward_next : (pauses : List Pause) (lengths : List ℕ) (t m : ℕ) → backward pauses lengths t (suc m) ≡ (if due_in pauses lengths t m then m ∷ [] else []) ++ backward pauses lengths t m
backward_next pauses lengths t m = reverse-append (ids_in_round pauses lengths t m) (if due_in pauses lengths t m then m ∷ [] else []) ∙ ap (λ l. l ++ backward pauses lengths t m) (go (due_in pauses lengths t m))
  where
    go : (b : Bool) → reverse (if b then m ∷ [] else []) ≡ (if b then m ∷ [] else [])
    go true = refl
    go false = refl

-- ids that are neither are passed over
passed : (x y m : ℕ) (b : Bool) (rest : List ℕ) → m ≢ x → m ≢ y → Alternate x y rest → Alternate x y ((if b then m ∷ [] else []) ++ rest)
passed x y m true rest nx ny alt = subst (λ t. next_of t (m == y) (Alternate y x rest) (Alternate x y rest)) (sym (ne_eqb m x nx)) (subst (λ u. next_of false u (Alternate y x rest) (Alternate x y rest)) (sym (ne_eqb m y ny)) alt)
passed x y m false rest nx ny alt = alt

-- and the one whose turn it is takes it
takes : (x y : ℕ) (b : Bool) (rest : List ℕ) → b ≡ true → Alternate y x rest → Alternate x y ((if b then x ∷ [] else []) ++ rest)
takes x y true rest due alt = subst (λ t. next_of t (x == y) (Alternate y x rest) (Alternate x y rest)) (sym (eq-eqb x x refl)) alt
takes x y false rest due alt = absurd (true≢false (sym due))

below : (pauses : List Pause) (lengths : List ℕ) (t q r x y m : ℕ) (rest : List ℕ) → q < r → m ≤ q → ((x ≡ q) × (y ≡ r)) ⊎ ((x ≡ r) × (y ≡ q)) → Alternate x y rest → Alternate x y (backward pauses lengths t m ++ rest)
below pauses lengths t q r x y zero rest less low pair alt = alt
below pauses lengths t q r x y (suc m) rest less low pair alt =
    subst (Alternate x y) (sym (ap (λ l. l ++ rest) (backward_next pauses lengths t m) ∙ append_assoc (if due_in pauses lengths t m then m ∷ [] else []) (backward pauses lengths t m) rest))
    (passed x y m (due_in pauses lengths t m) (backward pauses lengths t m ++ rest) (λ same. differs same (elim pair [ inl p ↦ inl p.0 | inr p ↦ inr p.0 ])) (λ same. differs same (elim pair [ inl p ↦ inr p.1 | inr p ↦ inl p.1 ]))
    (below pauses lengths t q r x y m rest less (omega (arith, low)) pair alt))
  where
    differs : {z : ℕ} → m ≡ z → (z ≡ q) ⊎ (z ≡ r) → ⊥
    differs same (inl is) = omega (arith, same, is, low)
    differs same (inr is) = omega (arith, same, is, low, less)

mid : (pauses : List Pause) (lengths : List ℕ) (t q r m : ℕ) (rest : List ℕ) → q < m → m ≤ r → due_in pauses lengths t q ≡ true → Alternate r q rest → Alternate q r (backward pauses lengths t m ++ rest)
mid pauses lengths t q r zero rest less low due alt = absurd (omega (arith, less))
mid pauses lengths t q r (suc m) rest less low due alt =
    subst (Alternate q r) (sym (ap (λ l. l ++ rest) (backward_next pauses lengths t m) ∙ append_assoc (if due_in pauses lengths t m then m ∷ [] else []) (backward pauses lengths t m) rest))
    (elim (cases_eq m q) [
      | inl same ↦ subst (λ i. Alternate q r ((if due_in pauses lengths t i then i ∷ [] else []) ++ (backward pauses lengths t i ++ rest))) (sym same) (takes q r (due_in pauses lengths t q) (backward pauses lengths t q ++ rest) due (below pauses lengths t q r r q q rest (omega (arith, same, low)) (omega arith) (inr (refl, refl)) alt))
      | inr other ↦ passed q r m (due_in pauses lengths t m) (backward pauses lengths t m ++ rest) other (λ same. omega (arith, same, low)) (mid pauses lengths t q r m rest (omega (arith, less, other)) (omega (arith, low)) due alt)
    ])

above : (pauses : List Pause) (lengths : List ℕ) (t q r m : ℕ) (rest : List ℕ) → q < r → r < m → due_in pauses lengths t q ≡ true → due_in pauses lengths t r ≡ true → Alternate r q rest → Alternate r q (backward pauses lengths t m ++ rest)
above pauses lengths t q r zero rest less low due_q due_r alt = absurd (omega (arith, low))
above pauses lengths t q r (suc m) rest less low due_q due_r alt =
    subst (Alternate r q) (sym (ap (λ l. l ++ rest) (backward_next pauses lengths t m) ∙ append_assoc (if due_in pauses lengths t m then m ∷ [] else []) (backward pauses lengths t m) rest))
    (elim (cases_eq m r) [
      | inl same ↦ subst (λ i. Alternate r q ((if due_in pauses lengths t i then i ∷ [] else []) ++ (backward pauses lengths t i ++ rest))) (sym same) (takes r q (due_in pauses lengths t r) (backward pauses lengths t r ++ rest) due_r (mid pauses lengths t q r r rest less (omega arith) due_q alt))
      | inr other ↦ passed r q m (due_in pauses lengths t m) (backward pauses lengths t m ++ rest) other (λ same. omega (arith, same, low, less)) (above pauses lengths t q r m rest less (omega (arith, low, other)) due_q due_r alt)
    ])

-- in these rounds two that are due each time take turns
pub take_turns : (pauses : List Pause) (lengths : List ℕ) (t q r x : ℕ) → q < r → r < length lengths → ((y : ℕ) → y < x → (due_in pauses lengths (t + y) q ≡ true) × (due_in pauses lengths (t + y) r ≡ true)) → Alternate r q (reverse (ids_from pauses lengths t x))
take_turns pauses lengths t q r zero less low due = tt
take_turns pauses lengths t q r (suc x) less low due =
    let now = due x (omega arith) in
    subst (Alternate r q) (sym (reverse-append (ids_from pauses lengths t x) (ids_in_round pauses lengths (t + x) (length lengths))))
    (above pauses lengths (t + x) q r (length lengths) (reverse (ids_from pauses lengths t x)) less low now.0 now.1 (take_turns pauses lengths t q r x less low (λ y few. due y (omega (arith, few)))))

-- events that have these ids, one after the other
pub record Split (events : List Event) (xs ys : List ℕ) : Type 0 where
  pub first : List Event
  pub second : List Event
  pub is : events ≡ first ++ second
  pub first_ids : map id_of first ≡ xs
  pub second_ids : map id_of second ≡ ys

pub split_ids : (events : List Event) (xs ys : List ℕ) → map id_of events ≡ xs ++ ys → Split events xs ys
split_ids events [] ys is = record { first = []; second = events; is = refl; first_ids = refl; second_ids = is }
split_ids [] (x ∷ xs) ys is = cc
split_ids (e ∷ events) (x ∷ xs) ys is =
    let k = split_ids events xs ys (let m = is in cc) in
    record { first = e ∷ k.first; second = k.second; is = ap (λ l. e ∷ l) k.is; first_ids = (let here : e.by ≡ x = cc in ap (λ i. i ∷ map id_of k.first) here ∙ ap (λ l. x ∷ l) k.first_ids); second_ids = k.second_ids }

-- as many steps as its pace says
pub count_after : (pauses : List Pause) (lengths : List ℕ) (s t : ℕ) → s < length lengths → count_of s (ids_after pauses lengths t) ≡ (pace pauses s (slice_index lengths s) t).taken
count_after pauses lengths s zero low = refl
count_after pauses lengths s (suc t) low =
    let ih = count_after pauses lengths s t low in
    let one = (count_round pauses lengths t s (length lengths)).1 low in
    let sum = count_append s (ids_after pauses lengths t) (ids_in_round pauses lengths t (length lengths)) in
    go (due_in pauses lengths t s) (omega (arith, ih, one, sum))
  where
    at : Pace
    at = pace pauses s (slice_index lengths s) t

    go : (b : Bool) → count_of s (ids_after pauses lengths (suc t)) ≡ at.taken + cond b 1 0 → count_of s (ids_after pauses lengths (suc t)) ≡ (pace_after b at).taken
    go true is = is
    go false is = omega (arith, is)

pub count_reverse : (s : ℕ) (xs : List ℕ) → count_of s (reverse xs) ≡ count_of s xs
count_reverse s [] = refl
count_reverse s (x ∷ xs) =
    let ih = count_reverse s xs in
    let sum = ap (count_of s) (reverse-append (x ∷ []) xs) ∙ count_append s (reverse xs) (x ∷ []) in
    go (x == s) (omega (arith, sum, ih))
  where
    go : (t : Bool) → count_of s (reverse (x ∷ xs)) ≡ count_of s xs + cond t 1 0 → count_of s (reverse (x ∷ xs)) ≡ cond t (count_of s xs + 1) (count_of s xs)
    go true is = is
    go false is = omega (arith, is)
