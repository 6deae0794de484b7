-- What a leader keeps of regions and rows, after each event.
use Rattle.std.proofs.Common.{Bool, List, None, Some, [], ap, arith, cond, false, get_or, inl, inr, length, max, refl, replicate, suc, subst, sym, true, true≢false, zero, ℕ, ◌&&◌, ◌++◌, ◌==◌, ◌||◌, ◌∙◌, ◌∷◌, ◌≡◌, ◌≤◌, eqb-true}
use Rattle.std.specs.Prelude.{nat_lt}
use Rattle.std.specs.List.{slice_get}
use Rattle.std.specs.declared.option.Option.{Option}
use Rattle.std.proofs.lemmas.Bool.{and_parts, lt-ltb, ltb-true, or_cases}
use Rattle.std.proofs.lemmas.Option.{slice_get_within}
use Rattle.mu_model.specs.declared.config.Config.{Config}
use Rattle.mu_model.specs.declared.event.Answer.{Answer}
use Rattle.mu_model.specs.declared.event.Event.{Event}
use Rattle.mu_model.specs.declared.event.Verb.{Verb}
use Rattle.mu_model.specs.Histories.{has, max_with, newer_or, newest, or_zero, event_by}
use Rattle.mu_model.specs.Knowledge.{fills, fuo_read, greatest_fuo_read, grown, is_filled, is_value, known, learnt_by, wrote}
use Rattle.mu_model.specs.Leaderships.{begins_leadership, leadership}
use Rattle.mu_model.specs.Parts.{IsPossible}
use Rattle.mu_model.specs.Placing.{fuo_read_or_raised, is_known_put, is_within_ring}
use Rattle.mu_model.specs.Room.{head_read, last_head}
use Rattle.mu_model.proofs.Basics.{or_true, true_or}
use Rattle.mu_model.proofs.Lists.{get_push_other}
use Rattle.mu_agree.proofs.Landings.{has_implied, has_more}
use Rattle.mu_agree.proofs.Readings.{part_heads_climb_law}
use Rattle.mu_lead.specs.Leading.{Brought, HoldsTables, IsReached}
use Rattle.mu_lead.specs.Beside.{writes_row}

-- what is known at a position stays
pub value_stays : (values : List ℕ) (o : Option ℕ) (j v : ℕ) → is_value (slice_get values j) v ≡ true → is_value (slice_get (grown values o) j) v ≡ true
value_stays values None j v is = is
value_stays values (Some w) j v is = go (slice_get values j) refl is
  where
    go : (x : Option ℕ) → slice_get values j ≡ x → is_value x v ≡ true → is_value (slice_get (values ++ w ∷ []) j) v ≡ true
    go None at is = absurd (true≢false (sym is))
    go (Some y) at is = let low = slice_get_within values j y at in ap (λ o. is_value o v) (get_push_other values j w (λ e. omega (arith, e, low)) ∙ at) ∙ is

-- a put of a known value is one of it later
known_put_stays : (values : List ℕ) (o : Option ℕ) (r p j by : ℕ) (verb : Verb) (answer : Answer) → is_known_put values r p j by verb answer ≡ true → is_known_put (grown values o) r p j by verb answer ≡ true
known_put_stays values o r p j by (Verb.PutSlot q i b v) Answer.Done is =
    let x = and_parts (by == r) ((q == p) && ((i == j) && is_value (slice_get values j) v)) is in
    let y = and_parts (q == p) ((i == j) && is_value (slice_get values j) v) x.1 in
    let z = and_parts (i == j) (is_value (slice_get values j) v) y.1 in
    rw (x.0, y.0, z.0) (value_stays values o j v z.1)
known_put_stays values o r p j by verb answer is = cc

-- a leadership goes on with an event that begins none
pub leadership_more : (r : ℕ) (e : Event) (mine : List Event) → begins_leadership r e ≡ false → leadership r (e ∷ mine) ≡ e ∷ leadership r mine
leadership_more r e mine goes_on = rw goes_on refl

read_more : (r p j by : ℕ) (verb : Verb) (answer : Answer) (past : List Event) → nat_lt j (greatest_fuo_read r p past) ≡ true → nat_lt j (max_with (fuo_read r p by verb answer) (greatest_fuo_read r p past)) ≡ true
read_more r p j by verb answer past is = go (fuo_read r p by verb answer)
  where
    go : (o : Option ℕ) → nat_lt j (max_with o (greatest_fuo_read r p past)) ≡ true
    go None = is
    go (Some x) = let low = ltb-true j (greatest_fuo_read r p past) is in lt-ltb j (max x (greatest_fuo_read r p past)) (omega arith)

-- p has what is known of j, if these values are known
abbrev pub caught_up_with : List ℕ → ℕ → ℕ → List Event → ℕ → Bool
caught_up_with values r p past j = nat_lt j (greatest_fuo_read r p past) || has (λ e. is_known_put values r p j e.by e.verb e.answer) past

caught_up_more : (values : List ℕ) (o : Option ℕ) (r p j : ℕ) (e : Event) (past : List Event) → caught_up_with values r p past j ≡ true → caught_up_with (grown values o) r p (e ∷ past) j ≡ true
caught_up_more values o r p j e past is =
    elim (or_cases (nat_lt j (greatest_fuo_read r p past)) (has (λ f. is_known_put values r p j f.by f.verb f.answer) past) is) [
      | inl read ↦ true_or (nat_lt j (greatest_fuo_read r p (e ∷ past))) (has (λ f. is_known_put (grown values o) r p j f.by f.verb f.answer) (e ∷ past)) (read_more r p j e.by e.verb e.answer past read)
      | inr put ↦ or_true (nat_lt j (greatest_fuo_read r p (e ∷ past))) (has (λ f. is_known_put (grown values o) r p j f.by f.verb f.answer) (e ∷ past))
          (has_more (λ f. is_known_put (grown values o) r p j f.by f.verb f.answer) e past
          (has_implied (λ f. is_known_put values r p j f.by f.verb f.answer) (λ f. is_known_put (grown values o) r p j f.by f.verb f.answer) (λ f. known_put_stays values o r p j f.by f.verb f.answer) past put))
    ]

-- what is brought stays, while the leadership goes on
pub brought_kept : (c : Config) (r p u : ℕ) (e : Event) (mine : List Event) → begins_leadership r e ≡ false → Brought c r mine p u → Brought c r (e ∷ mine) p u
brought_kept c r p u e mine goes_on b = record {
  caught_up = λ j low. subst (λ past. caught_up_with (known c r (e ∷ mine)) r p past j ≡ true) (sym (leadership_more r e mine goes_on))
      (caught_up_more (known c r mine) (learnt_by c r mine (length (known c r mine)) e.by e.verb e.answer (e ∷ mine)) r p j e (leadership r mine) (b.caught_up j low));
  filled = λ j low. or_true (fills c r p j mine e.by e.verb e.answer (e ∷ mine)) (is_filled c r p mine j) (b.filled j low);
}

pub reached_kept : (r p : ℕ) (reach : Option ℕ) (e : Event) (mine : List Event) → begins_leadership r e ≡ false → IsReached r mine p reach → IsReached r (e ∷ mine) p reach
reached_kept r p reach e mine goes_on reached i ring is =
    subst (λ past. has (λ f. is_within_ring i ring (fuo_read_or_raised r p f.by f.verb f.answer)) past ≡ true) (sym (leadership_more r e mine goes_on))
    (has_more (λ f. is_within_ring i ring (fuo_read_or_raised r p f.by f.verb f.answer)) e (leadership r mine) (reached i ring is))

-- heads that are read never fall
pub head_kept : (c : Config) (r q : ℕ) (e : Event) (mine : List Event) → IsPossible c r (e ∷ mine) → last_head r q mine ≤ last_head r q (e ∷ mine)
head_kept c r q e mine possible = go e.verb e.answer refl refl
  where
    go : (verb : Verb) (answer : Answer) → e.verb ≡ verb → e.answer ≡ answer → last_head r q mine ≤ or_zero (newer_or (head_read r q e.by verb answer) (newest (λ f. head_read r q f.by f.verb f.answer) mine))
    go (Verb.Head p) (Answer.Number x) v a = by_test (e.by == r) (p == q) refl
      where
        by_test : (s t : Bool) → (p == q) ≡ t → last_head r q mine ≤ or_zero (newer_or (cond (s && t) (Some x) None) (newest (λ f. head_read r q f.by f.verb f.answer) mine))
        by_test true true same = let low = part_heads_climb_law c r p x mine e possible v a in subst (λ y. last_head r y mine ≤ x) (eqb-true p q same) low
        by_test true false same = omega arith
        by_test false t same = omega arith
    go verb answer v a = omega arith

words_kept : (r j k by : ℕ) (verb : Verb) (answer : Answer) (mine : List Event) → writes_row verb ≡ false → wrote r j k (event_by by verb answer ∷ mine) ≡ wrote r j k mine
words_kept r j k by (Verb.WriteRow i w x) answer mine none = absurd (true≢false none)
words_kept r j k by verb answer mine none = refl

-- an event that begins no leadership and writes no row keeps the tables
pub tables_kept : (c : Config) (r : ℕ) (e : Event) (mine : List Event) (up : List ℕ) (reach : List (Option ℕ)) (heads written : List ℕ) → IsPossible c r (e ∷ mine) → begins_leadership r e ≡ false → writes_row e.verb ≡ false
    → HoldsTables c r mine up reach heads written → HoldsTables c r (e ∷ mine) up reach heads written
tables_kept c r e mine up reach heads written possible goes_on none t = record {
  ups = t.ups;
  reaches = t.reaches;
  all_heads = t.all_heads;
  rows = t.rows;
  brought = λ p. brought_kept c r p (get_or up p 0) e mine goes_on (t.brought p);
  within = t.within;
  reached = λ p. reached_kept r p (get_or reach p None) e mine goes_on (t.reached p);
  read = λ q. (let more = head_kept c r q e mine possible in let low = t.read q in omega (arith, more, low));
  words = λ j k row low. words_kept r j k e.by e.verb e.answer mine none ∙ t.words j k row low;
}

get_none : {A : Type 0} (d : A) (n p : ℕ) → get_or (replicate n d) p d ≡ d
get_none d zero p = refl
get_none d (suc n) zero = refl
get_none d (suc n) (suc p) = get_none d n p

none_within : (i ring : ℕ) (o : Option ℕ) → o ≡ None → is_within_ring i ring o ≡ true → ⊥
none_within i ring o none is = absurd (true≢false (sym is ∙ ap (is_within_ring i ring) none))

length_replicate : {A : Type 0} (n : ℕ) (d : A) → length (replicate n d) ≡ n
length_replicate zero d = refl
length_replicate (suc n) d = ap suc (length_replicate n d)

-- a leadership that begins has brought and reached nothing
pub tables_begun : (c : Config) (r : ℕ) (answer : Answer) (mine : List Event) (up : List ℕ) (reach : List (Option ℕ)) (heads written : List ℕ) → IsPossible c r (event_by r (Verb.Ask 0) answer ∷ mine)
    → HoldsTables c r mine up reach heads written → HoldsTables c r (event_by r (Verb.Ask 0) answer ∷ mine) (replicate {A = ℕ} 7 0) (replicate 7 None) heads written
tables_begun c r answer mine up reach heads written possible t = record {
  ups = length_replicate {A = ℕ} 7 0;
  reaches = length_replicate {A = Option ℕ} 7 None;
  all_heads = t.all_heads;
  rows = t.rows;
  brought = λ p. nothing p (none_up p);
  within = λ p. (let none = none_up p in omega (arith, none));
  reached = λ p i ring is. absurd (none_within i ring (get_or (replicate 7 None) p None) (get_none None 7 p) is);
  read = t.read;
  words = t.words;
}
  where
    none_up : (p : ℕ) → get_or (replicate {A = ℕ} 7 0) p 0 ≡ 0
    none_up p = get_none {A = ℕ} 0 7 p

    nothing : (p : ℕ) → get_or (replicate {A = ℕ} 7 0) p 0 ≡ 0 → Brought c r (event_by r (Verb.Ask 0) answer ∷ mine) p (get_or (replicate {A = ℕ} 7 0) p 0)
    nothing p none = record { caught_up = λ j low. absurd (omega (arith, low, none)); filled = λ j low. absurd (omega (arith, low, none)) }

-- the same of the first `Ask` by its number
pub tables_first : (c : Config) (r p : ℕ) (answer : Answer) (mine : List Event) (up : List ℕ) (reach : List (Option ℕ)) (heads written : List ℕ) → p ≡ 0 → IsPossible c r (event_by r (Verb.Ask p) answer ∷ mine)
    → HoldsTables c r mine up reach heads written → HoldsTables c r (event_by r (Verb.Ask p) answer ∷ mine) (replicate {A = ℕ} 7 0) (replicate 7 None) heads written
tables_first c r p answer mine up reach heads written first possible t =
    subst (λ q. HoldsTables c r (event_by r (Verb.Ask q) answer ∷ mine) (replicate {A = ℕ} 7 0) (replicate 7 None) heads written) (sym first)
    (tables_begun c r answer mine up reach heads written (subst (λ q. IsPossible c r (event_by r (Verb.Ask q) answer ∷ mine)) first possible) t)
