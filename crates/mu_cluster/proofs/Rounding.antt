-- The turns of a round, one after the other, and the round as a whole.
use Rattle.std.proofs.Common.{◌≡◌, ◌≢◌, ◌∙◌, ℕ, suc, zero, ◌+◌, ◌<◌, ◌≤◌, ◌==◌, ◌⊎◌, Bool, true, false, List, [], ◌∷◌, ◌++◌, Some, ap, append-nil, append_assoc, arith, cond, inl, inr, length, length-set, refl, set, subst, sym}
use Rattle.std.specs.Prelude.{if◌then◌else◌, nat_lt, not, slice_index}
use Rattle.std.specs.List.{slice_get}
use Rattle.std.proofs.lemmas.Bool.{cases_eq, lt-ltb, ne_eqb}
use Rattle.std.proofs.lemmas.List.{reverse-append}
use Rattle.std.proofs.lemmas.Option.{slice_get_within}
use Rattle.mu_model.specs.declared.config.Config.{Config}
use Rattle.mu_model.specs.declared.event.Event.{Event}
use Rattle.mu_model.specs.declared.script.Script.{Script}
use Rattle.mu_model.specs.Histories.{has, history, part}
use Rattle.mu_model.proofs.Basics.{same_some}
use Rattle.mu_model.proofs.Lists.{get_set_here, get_set_other, set_get}
use Rattle.mu_node.specs.declared.zeal.Zeal.{Zeal}
use Rattle.mu_cluster.specs.declared.rounds.Seat.{Seat}
use Rattle.mu_cluster.specs.Rounds.{MayTake, PlayedBy, Plays, Sits, all_left, left_of, part_of}
use Rattle.mu_outcome.specs.Turns.{ids_after, ids_in_round, is_due, pace}

abbrev Grows : ℕ → List Event → List Event → Type 0
Grows r old new = (new ≡ old) ⊎ ((e : Event) × (e.by ≡ r) × (new ≡ old ++ e ∷ []))

-- an event of another replica
part_kept : (s : ℕ) (old : List Event) (e : Event) → s ≢ e.by → part_of s (old ++ e ∷ []) ≡ part_of s old
part_kept s old e other = ap (part s) (reverse-append old (e ∷ [])) ∙ rw (ne_eqb e.by s (λ same. other (sym same))) refl

others_kept : (r s : ℕ) (old new : List Event) → Grows r old new → s ≢ r → part_of s new ≡ part_of s old
others_kept r s old new (inl same) other = ap (part_of s) same
others_kept r s old new (inr (e, by, list)) other = ap (part_of s) list ∙ part_kept s old e (λ is. other (is ∙ by))

part_longer : (r : ℕ) (old : List Event) (e : Event) → length (part_of r old) ≤ length (part_of r (old ++ e ∷ []))
part_longer r old e = subst (λ l. length (part_of r old) ≤ length (part r l)) (sym (reverse-append old (e ∷ []))) (go (e.by == r))
  where
    go : (t : Bool) → length (part r (history old)) ≤ length (cond t (e ∷ part r (history old)) (part r (history old)))
    go true = omega arith
    go false = omega arith

part_grows : (r s : ℕ) (old new : List Event) → Grows r old new → length (part_of s old) ≤ length (part_of s new)
part_grows r s old new (inl same) = let e = ap (λ l. length (part_of s l)) same in omega (arith, e)
part_grows r s old new (inr (e, by, list)) = let m = ap (λ l. length (part_of s l)) list in let n = part_longer s old e in omega (arith, m, n)

own_kept : (c : Config) (r : ℕ) (old new : List Event) → r < c.replicas → Grows r old new → has (λ e. not (nat_lt e.by c.replicas)) (history old) ≡ false → has (λ e. not (nat_lt e.by c.replicas)) (history new) ≡ false
own_kept c r old new low (inl same) own = ap (λ l. has (λ e. not (nat_lt e.by c.replicas)) (history l)) same ∙ own
own_kept c r old new low (inr (e, by, list)) own =
    ap (λ l. has (λ e. not (nat_lt e.by c.replicas)) (history l)) list ∙ (ap (has (λ e. not (nat_lt e.by c.replicas))) (reverse-append old (e ∷ [])) ∙ rw (lt-ltb e.by c.replicas (omega (arith, low, by))) own)

-- the lengths that the replicas may have after a turn are some that they might have before it
may_before : {kind : Zeal} (c : Config) (script : Script) (old new : List Event) (seats : List Seat) (k rounds : ℕ) (before after : Seat) (lengths : List ℕ)
    → slice_get seats k ≡ Some before → Plays kind c script k old new before after rounds → MayTake new (set seats k after) lengths → MayTake old seats lengths
may_before {kind} c script old new seats k rounds before after lengths there plays may = record { count = may.count ∙ length-set seats k after; each = each }
  where
    low : k < length seats
    low = slice_get_within seats k before there

    each : (r : ℕ) (seat : Seat) → slice_get seats r ≡ Some seat → (length (part_of r old) ≤ slice_index lengths r) × (seat.ended ≡ true → slice_index lengths r ≡ length (part_of r old))
    each r seat at = elim (cases_eq r k) [ inl here ↦ own here | inr other ↦ others other ]
      where
        own : r ≡ k → (length (part_of r old) ≤ slice_index lengths r) × (seat.ended ≡ true → slice_index lengths r ≡ length (part_of r old))
        own here =
            let same : before ≡ seat = same_some before seat (sym there ∙ subst (λ i. slice_get seats i ≡ Some seat) here at) in
            let now = may.each k after (get_set_here seats k after low) in
            let grew = part_grows k k old new plays.grows in
            subst (λ i. (length (part_of i old) ≤ slice_index lengths i) × (seat.ended ≡ true → slice_index lengths i ≡ length (part_of i old))) (sym here)
            (omega (arith, now.0, grew), λ ended. let stays = plays.stays (ap (λ (s : Seat). s.ended) same ∙ ended) in now.1 stays.0 ∙ ap (λ l. length (part_of k l)) stays.1)

        others : r ≢ k → (length (part_of r old) ≤ slice_index lengths r) × (seat.ended ≡ true → slice_index lengths r ≡ length (part_of r old))
        others other = subst (λ l. (length l ≤ slice_index lengths r) × (seat.ended ≡ true → slice_index lengths r ≡ length l)) (others_kept k r old new plays.grows other) (may.each r seat (get_set_other seats r k after other ∙ at))

-- one more turn of a round
pub play_on : {kind : Zeal} (c : Config) (script : Script) (old new : List Event) (seats : List Seat) (k rounds : ℕ) (before after : Seat) → k < c.replicas
    → slice_get seats k ≡ Some before → Plays kind c script k old new before after rounds → PlayedBy kind c script old seats rounds k → PlayedBy kind c script new (set seats k after) rounds (suc k)
play_on {kind} c script old new seats k rounds before after low there plays was = record {
  count = length-set seats k after ∙ was.count;
  played = played;
  waits = waits;
  ids = λ lengths may.
      let now = may.each k after (get_set_here seats k after (slice_get_within seats k before there)) in
      let first = ids_after script.pauses lengths rounds in
      let here = ids_in_round script.pauses lengths rounds k in
      plays.ids (slice_index lengths k) now.0 now.1
      ∙ (ap (λ l. l ++ (if is_due script.pauses k (slice_index lengths k) (pace script.pauses k (slice_index lengths k) rounds) then k ∷ [] else [])) (was.ids lengths (may_before c script old new seats k rounds before after lengths there plays may))
      ∙ append_assoc first here (if is_due script.pauses k (slice_index lengths k) (pace script.pauses k (slice_index lengths k) rounds) then k ∷ [] else []));
  own = own_kept c k old new low plays.grows was.own;
}
  where
    played : (r : ℕ) (seat : Seat) → slice_get (set seats k after) r ≡ Some seat → r < suc k → Sits kind c script r (part_of r new) seat (suc rounds)
    played r seat at below = elim (set_get seats k after r seat at) [
      | inl here ↦ subst (λ i. Sits kind c script i (part_of i new) seat (suc rounds)) (sym here.0) (subst (λ s. Sits kind c script k (part_of k new) s (suc rounds)) here.1 plays.sits)
      | inr other ↦ subst (λ l. Sits kind c script r l seat (suc rounds)) (sym (others_kept k r old new plays.grows other.0)) (was.played r seat other.1 (let differ = other.0 in omega (arith, below, differ)))
    ]

    waits : (r : ℕ) (seat : Seat) → slice_get (set seats k after) r ≡ Some seat → suc k ≤ r → Sits kind c script r (part_of r new) seat rounds
    waits r seat at above = elim (set_get seats k after r seat at) [
      | inl here ↦ absurd (let same = here.0 in omega (arith, above, same))
      | inr other ↦ subst (λ l. Sits kind c script r l seat rounds) (sym (others_kept k r old new plays.grows other.0)) (was.waits r seat other.1 (omega (arith, above)))
    ]

-- a whole round
pub round_done : {kind : Zeal} (c : Config) (script : Script) (events : List Event) (seats : List Seat) (k rounds : ℕ) → length seats ≤ k → k ≤ length seats → PlayedBy kind c script events seats rounds k → PlayedBy kind c script events seats (suc rounds) 0
round_done {kind} c script events seats k rounds most least was = record {
  count = was.count;
  played = λ r seat at none. absurd (omega (arith, none));
  waits = λ r seat at _. let low = slice_get_within seats r seat at in was.played r seat at (omega (arith, low, most));
  ids = λ lengths may.
      let all : k ≡ length lengths = let n = may.count in omega (arith, n, most, least) in
      was.ids lengths may ∙ (ap (λ n. ids_after script.pauses lengths rounds ++ ids_in_round script.pauses lengths rounds n) all ∙ sym (append-nil (ids_after script.pauses lengths (suc rounds))));
  own = was.own;
}

-- the turns left with another seat in place of one
pub left_set : (xs : List Seat) (k : ℕ) (old new : Seat) → slice_get xs k ≡ Some old → all_left (set xs k new) + left_of old ≡ all_left xs + left_of new
left_set [] k old new at = cc
left_set (x ∷ xs) zero old new at = let same = ap left_of (same_some x old at) in omega (arith, same)
left_set (x ∷ xs) (suc k) old new at = let rest = left_set xs k old new at in omega (arith, rest)

-- a replica sits at its own id
pub sits_own : {kind : Zeal} (f k : Config) (script : Script) (r rounds : ℕ) (events : List Event) (seat : Seat) → k ≡ f → Sits kind f script r (part_of r events) seat rounds → Sits kind k script seat.node.id (part_of seat.node.id events) seat rounds
sits_own {kind} f k script r rounds events seat same sits =
    subst (λ c. Sits kind c script seat.node.id (part_of seat.node.id events) seat rounds) (sym same) (subst (λ i. Sits kind f script i (part_of i events) seat rounds) (sym sits.follows.stands.beside.id) sits)

-- and plays there
pub plays_there : {kind : Zeal} (f k : Config) (script : Script) (r id rounds : ℕ) (old new : List Event) (before after : Seat) → k ≡ f → id ≡ r → Plays kind k script id old new before after rounds → Plays kind f script r old new before after rounds
plays_there {kind} f k script r id rounds old new before after same here plays = subst (λ i. Plays kind f script i old new before after rounds) here (subst (λ c. Plays kind c script id old new before after rounds) same plays)

-- the state after a round stands for the configuration of the fabric too
pub played_of : {kind : Zeal} (f k : Config) (script : Script) (events : List Event) (seats : List Seat) (rounds n : ℕ) → k ≡ f → PlayedBy kind f script events seats rounds n → PlayedBy kind k script events seats rounds n
played_of {kind} f k script events seats rounds n same was = subst (λ c. PlayedBy kind c script events seats rounds n) (sym same) was
