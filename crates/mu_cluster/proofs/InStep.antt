-- If the script has no pause, a lower replica is a step ahead of a higher one at each step of the
-- higher one, and a higher one is in step with a lower one.
use Rattle.std.proofs.Common.{◌≡◌, ◌∙◌, ◌≢◌, ℕ, suc, zero, ◌+◌, ◌<◌, ◌≤◌, ◌&&◌, inl, inr, Bool, true, false, cond, List, [], ◌∷◌, ◌++◌, ap, append-nil, append_assoc, arith, eq-eqb, length, map, refl, subst, sym}
use Rattle.std.specs.Prelude.{if◌then◌else◌, nat_lt, not, reverse, slice_index}
use Rattle.std.proofs.lemmas.Bool.{cases_eq, cases_lt, le-ltb, lt-ltb, ltb-true, ne_eqb}
use Rattle.std.proofs.lemmas.List.{map-append, reverse-append}
use Rattle.mu_model.specs.declared.event.Event.{Event}
use Rattle.mu_model.specs.Histories.{history, part}
use Rattle.mu_agree.specs.Moments.{AtEachStep}
use Rattle.mu_cluster.specs.Rounds.{id_of}
use Rattle.mu_outcome.specs.Turns.{Pace, ids_after, ids_in_round, is_due, pace, pace_after}
use Rattle.mu_cluster.proofs.Paused.{count_of, count_part}

-- x is the lesser of two numbers
abbrev pub IsLesser : ℕ → ℕ → ℕ → Type 0
IsLesser a b x = (a ≤ b → x ≡ a) × (b ≤ a → x ≡ b)

-- without a pause a replica is due while steps are left
due_is : (r all : ℕ) (at : Pace) → is_due [] r all at ≡ nat_lt at.taken all
due_is r all at = ap (λ t. nat_lt at.taken all && not t) (le-ltb at.waited 0 (omega arith)) ∙ all_due (nat_lt at.taken all)
  where
    all_due : (t : Bool) → (t && true) ≡ t
    all_due true = refl
    all_due false = refl

-- so after this many rounds it has taken as many steps, or all
paced : (r all rounds : ℕ) → IsLesser rounds all (pace [] r all rounds).taken
paced r all zero = (λ _. refl, λ none. omega (arith, none))
paced r all (suc round) = elim (cases_lt round all) [
  | inl more ↦ (let at : (pace [] r all round).taken ≡ round = (paced r all round).0 (omega (arith, more)) in
      let due = due_is r all (pace [] r all round) ∙ lt-ltb (pace [] r all round).taken all (omega (arith, more, at)) in
      let is = ap (λ t. (pace_after t (pace [] r all round)).taken) due in
      (λ _. omega (arith, is, at), λ over. omega (arith, is, at, over, more)))
  | inr none ↦ (let at : (pace [] r all round).taken ≡ all = (paced r all round).1 none in
      let due = due_is r all (pace [] r all round) ∙ le-ltb (pace [] r all round).taken all (omega (arith, at)) in
      let is = ap (λ t. (pace_after t (pace [] r all round)).taken) due in
      (λ more. absurd (omega (arith, more, none)), λ _. is ∙ at))
]

-- a step is left to who is due, and it has taken one in each round
due_steps : (r all round : ℕ) → is_due [] r all (pace [] r all round) ≡ true → round < all
due_steps r all round due = elim (cases_lt round all) [
  | inl more ↦ more
  | inr none ↦ (let at = (paced r all round).1 none in
      let low = ltb-true (pace [] r all round).taken all (sym (due_is r all (pace [] r all round)) ∙ due) in
      absurd (omega (arith, at, low)))
]

idle_steps : (r all round : ℕ) → is_due [] r all (pace [] r all round) ≡ false → all ≤ round
idle_steps r all round idle = elim (cases_lt round all) [
  | inl more ↦ (let at = (paced r all round).0 (omega (arith, more)) in
      let due = due_is r all (pace [] r all round) ∙ lt-ltb (pace [] r all round).taken all (omega (arith, more, at)) in
      absurd (differ (sym due ∙ idle)))
  | inr none ↦ none
]
  where
    differ : true ≡ false → ⊥
    differ e = cc

-- of ids with the last one first: at each r there are as many of q as of r before it and the lead,
-- up to all that there are
abbrev AreInStep : ℕ → ℕ → ℕ → ℕ → List ℕ → Type 0
AreInStep lead q most r [] = Unit {0}
AreInStep lead q most r (i ∷ ids) = AreInStep lead q most r ids × (i ≡ r → IsLesser (count_of r ids + lead) most (count_of q ids))

-- the ids of this many rounds and of the first k replicas in the next one
record AreTurns (lengths : List ℕ) (round k : ℕ) (ids : List ℕ) : Type 0 where
  had : (s : ℕ) → s < k → IsLesser (suc round) (slice_index lengths s) (count_of s ids)
  waits : (s : ℕ) → k ≤ s → s < length lengths → IsLesser round (slice_index lengths s) (count_of s ids)
  ahead : (q r : ℕ) → q < r → AreInStep 1 q (slice_index lengths q) r ids
  behind : (q r : ℕ) → r < q → q < length lengths → AreInStep 0 q (slice_index lengths q) r ids

-- those of the whole round
whole_round : (lengths : List ℕ) (round : ℕ) (ids : List ℕ) → AreTurns lengths round (length lengths) ids → AreTurns lengths (suc round) 0 ids
whole_round lengths round ids was = record {
  had = λ s low. absurd (omega (arith, low));
  waits = λ s _ inside. was.had s inside;
  ahead = was.ahead;
  behind = was.behind;
}

-- one more turn
more_turns : (lengths : List ℕ) (round k : ℕ) (ids : List ℕ) → k < length lengths → round < slice_index lengths k → AreTurns lengths round k ids → AreTurns lengths round (suc k) (k ∷ ids)
more_turns lengths round k ids inside left was = record { had = had; waits = waits; ahead = ahead; behind = behind }
  where
    taken : count_of k ids ≡ round
    taken = (was.waits k (omega arith) inside).0 (omega (arith, left))

    others : (s : ℕ) → s ≢ k → count_of s (k ∷ ids) ≡ count_of s ids
    others s other = ap (λ t. cond t (count_of s ids + 1) (count_of s ids)) (ne_eqb k s (λ same. other (sym same)))

    own : count_of k (k ∷ ids) ≡ round + 1
    own = ap (λ t. cond t (count_of k ids + 1) (count_of k ids)) (eq-eqb k k refl) ∙ ap (λ n. n + 1) taken

    had : (s : ℕ) → s < suc k → IsLesser (suc round) (slice_index lengths s) (count_of s (k ∷ ids))
    had s low = elim (cases_eq s k) [
      | inl same ↦ subst (λ i. IsLesser (suc round) (slice_index lengths i) (count_of i (k ∷ ids))) (sym same) (λ _. omega (arith, own), λ over. omega (arith, own, over, left))
      | inr other ↦ subst (λ n. IsLesser (suc round) (slice_index lengths s) n) (sym (others s other)) (was.had s (omega (arith, low, other)))
    ]

    waits : (s : ℕ) → suc k ≤ s → s < length lengths → IsLesser round (slice_index lengths s) (count_of s (k ∷ ids))
    waits s above low = subst (λ n. IsLesser round (slice_index lengths s) n) (sym (others s (λ same. omega (arith, same, above)))) (was.waits s (omega (arith, above)) low)

    behind : (q r : ℕ) → r < q → q < length lengths → AreInStep 0 q (slice_index lengths q) r (k ∷ ids)
    behind q r above low = (
      was.behind q r above low,
      λ here.
          let waited = was.waits q (omega (arith, above, here)) low in
          let none : round ≡ count_of r ids + 0 = omega (arith, taken, ap (λ i. count_of i ids) here) in
          subst (λ n. IsLesser n (slice_index lengths q) (count_of q ids)) none waited,
    )

    ahead : (q r : ℕ) → q < r → AreInStep 1 q (slice_index lengths q) r (k ∷ ids)
    ahead q r below = (
      was.ahead q r below,
      λ here.
          let had = was.had q (omega (arith, below, here)) in
          let one : suc round ≡ count_of r ids + 1 = omega (arith, taken, ap (λ i. count_of i ids) here) in
          subst (λ n. IsLesser n (slice_index lengths q) (count_of q ids)) one had,
    )

-- a turn of who has ended
no_turn : (lengths : List ℕ) (round k : ℕ) (ids : List ℕ) → k < length lengths → slice_index lengths k ≤ round → AreTurns lengths round k ids → AreTurns lengths round (suc k) ids
no_turn lengths round k ids inside none was = record {
  had = λ s low. elim (cases_eq s k) [
    | inl same ↦ (let all = (was.waits k (omega arith) inside).1 none in
        subst (λ i. IsLesser (suc round) (slice_index lengths i) (count_of i ids)) (sym same) (λ over. absurd (omega (arith, over, none)), λ _. all))
    | inr other ↦ was.had s (omega (arith, low, other))
  ];
  waits = λ s above low. was.waits s (omega (arith, above)) low;
  ahead = was.ahead;
  behind = was.behind;
}

-- the ids of this many rounds, and of the first replicas in the next one, the last one first
abbrev turned : List ℕ → ℕ → ℕ → List ℕ
turned lengths round k = reverse (ids_after [] lengths round ++ ids_in_round [] lengths round k)

are_turns : (lengths : List ℕ) (round k : ℕ) → k ≤ length lengths → AreTurns lengths round k (turned lengths round k)
are_turns lengths zero zero low = record { had = λ s none. absurd (omega (arith, none)); waits = λ s _ inside. (λ _. refl, λ none. omega (arith, none)); ahead = λ q r below. tt; behind = λ q r above low. tt }
are_turns lengths (suc round) zero low =
    subst (AreTurns lengths (suc round) 0) (sym (ap reverse (append-nil (ids_after [] lengths (suc round)))))
    (whole_round lengths round (turned lengths round (length lengths)) (are_turns lengths round (length lengths) (omega arith)))
are_turns lengths round (suc k) low = go (is_due [] k (slice_index lengths k) (pace [] k (slice_index lengths k) round)) refl (are_turns lengths round k (omega (arith, low)))
  where
    before : List ℕ
    before = ids_after [] lengths round ++ ids_in_round [] lengths round k

    next : (t : Bool) → List ℕ
    next t = ids_after [] lengths round ++ (ids_in_round [] lengths round k ++ (if t then k ∷ [] else []))

    go : (t : Bool) → is_due [] k (slice_index lengths k) (pace [] k (slice_index lengths k) round) ≡ t → AreTurns lengths round k (reverse before) → AreTurns lengths round (suc k) (reverse (next t))
    go true due was =
        subst (AreTurns lengths round (suc k)) (sym (ap reverse (sym (append_assoc (ids_after [] lengths round) (ids_in_round [] lengths round k) (k ∷ []))) ∙ reverse-append before (k ∷ [])))
        (more_turns lengths round k (reverse before) (omega (arith, low)) (due_steps k (slice_index lengths k) round due) was)
    go false idle was =
        subst (AreTurns lengths round (suc k)) (sym (ap (λ l. reverse (ids_after [] lengths round ++ l)) (append-nil (ids_in_round [] lengths round k))))
        (no_turn lengths round k (reverse before) (omega (arith, low)) (idle_steps k (slice_index lengths k) round idle) was)

-- at this event of r the replica q has taken as many steps as r before it and the lead, or all
abbrev pub StaysAhead : ℕ → ℕ → ℕ → ℕ → List Event → Event → Type 0
StaysAhead lead q most r before e = e.by ≡ r → IsLesser (length (part r before) + lead) most (length (part q before))

events_in_step : (lead q most r : ℕ) (past : List Event) → AreInStep lead q most r (map id_of past) → AtEachStep (StaysAhead lead q most r) past
events_in_step lead q most r [] held = tt
events_in_step lead q most r (e ∷ past) held =
    (events_in_step lead q most r past held.0, λ own. subst (λ n. IsLesser n most (length (part q past))) (ap (λ n. n + lead) (count_part r past)) (subst (λ n. IsLesser (count_of r (map id_of past) + lead) most n) (count_part q past) (held.1 own)))

pub map_reverse : {A : Type 0} {B : Type 0} (f : A → B) (xs : List A) → map f (reverse xs) ≡ reverse (map f xs)
map_reverse f [] = refl
map_reverse f (x ∷ xs) = ap (map f) (reverse-append (x ∷ []) xs) ∙ (map-append f (reverse xs) (x ∷ []) ∙ (ap (λ l. l ++ f x ∷ []) (map_reverse f xs) ∙ sym (reverse-append (f x ∷ []) (map f xs))))

-- q keeps step with r: at each event of r it has taken as many steps, with this event of r or
-- without, or all
pub record KeepsStep (q most r : ℕ) (past : List Event) : Type 0 where
  pub lead : ℕ
  pub short : lead ≤ 1
  pub each : AtEachStep (StaysAhead lead q most r) past

-- in a list of events in the order of rounds without a pause
pub in_step : (lengths : List ℕ) (rounds q r : ℕ) (events : List Event) → q ≢ r → q < length lengths → map id_of events ≡ ids_after [] lengths rounds → KeepsStep q (slice_index lengths q) r (history events)
in_step lengths rounds q r events other low order = elim (cases_lt q r) [
  | inl below ↦ record { lead = 1; short = omega arith; each = events_in_step 1 q most r (history events) (subst (AreInStep 1 q most r) is (turns.ahead q r below)) }
  | inr above ↦ record { lead = 0; short = omega arith; each = events_in_step 0 q most r (history events) (subst (AreInStep 0 q most r) is (turns.behind q r (omega (arith, above, other)) low)) }
]
  where
    most : ℕ
    most = slice_index lengths q

    turns : AreTurns lengths rounds 0 (turned lengths rounds 0)
    turns = are_turns lengths rounds 0 (omega arith)

    is : turned lengths rounds 0 ≡ map id_of (history events)
    is = ap reverse (append-nil (ids_after [] lengths rounds) ∙ sym order) ∙ sym (map_reverse id_of events)
