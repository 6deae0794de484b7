-- Logs have no gaps: what landed stands in them.
use Rattle.std.proofs.Common.{◌≡◌, ℕ, zero, suc, ◌+◌, ◌<◌, ◌≤◌, ◌⊎◌, inl, inr, Bool, true, false, cond, ◌&&◌, ◌||◌, ◌==◌, List, [], ◌∷◌, ◌++◌, refl, sym, ◌∙◌, ap, arith, Some, None, subst, eqb-true, true≢false, length, set, length-set}
use Rattle.std.specs.declared.option.Option.{Option}
use Rattle.std.specs.List.{slice_get}
use Rattle.std.specs.Prelude.{nat_lt}
use Rattle.std.proofs.lemmas.List.{length_push}
use Rattle.std.proofs.lemmas.Bool.{and_parts, and_from, or_cases, ltb-true, eqb-false}
use Rattle.std.proofs.lemmas.Option.{slice_get_within}
use Rattle.mu_model.specs.declared.config.Config.{Config}
use Rattle.mu_model.specs.declared.event.Event.{Event}
use Rattle.mu_model.specs.declared.event.Verb.{Verb}
use Rattle.mu_model.specs.declared.event.Answer.{Answer}
use Rattle.mu_model.specs.Allowed.{Needs}
use Rattle.mu_model.specs.Answers.{drained, put_answer, shown}
use Rattle.mu_model.specs.Histories.{all_below, greatest, has, max_with, part, since}
use Rattle.mu_model.specs.Knowledge.{fuo_read, greatest_fuo_read, is_filled, is_put_done, is_value, known, lands_entry}
use Rattle.mu_model.specs.Leaderships.{begins_leadership, leadership}
use Rattle.mu_model.specs.Legal.{IsLegalHistory}
use Rattle.mu_model.specs.Placing.{is_caught_up_at, is_known_put}
use Rattle.mu_model.specs.Regions.{region_fuo, region_log}
use Rattle.mu_agree.proofs.Legal.{event_after, legal_induction}
use Rattle.mu_agree.proofs.Slots.{put_in'}
use Rattle.mu_model.proofs.Putting.{put_facts, raise_facts}

-- a put landed at p in position i
abbrev pub is_landed_at : ℕ → ℕ → Verb → Answer → Bool
is_landed_at p i (Verb.PutSlot q j b v) Answer.Done = (q == p) && (j == i)
is_landed_at p i _ _ = false

abbrev pub landed_at : ℕ → ℕ → List Event → Bool
landed_at p i past = has (λ e. is_landed_at p i e.verb e.answer) past

-- laws of `has`
pub has_more : (test : Event → Bool) (e : Event) (past : List Event) → has test past ≡ true → has test (e ∷ past) ≡ true
has_more test e past h = go (test e)
  where
    go : (t : Bool) → cond t true (has test past) ≡ true
    go true = refl
    go false = h

pub has_cases : (t b : Bool) → cond t true b ≡ true → (t ≡ true) ⊎ (b ≡ true)
has_cases true b h = inl refl
has_cases false b h = inr h

pub has_implied : (test other : Event → Bool) → ((e : Event) → test e ≡ true → other e ≡ true) → (past : List Event) → has test past ≡ true → has other past ≡ true
has_implied test other f [] h = h
has_implied test other f (e ∷ past) h =
    elim (has_cases (test e) (has test past) h) [ inl k ↦ here (other e) (has other past) (f e k) | inr k ↦ has_more other e past (has_implied test other f past k) ]
  where
    here : (t b : Bool) → t ≡ true → cond t true b ≡ true
    here true b k = refl
    here false b k = absurd (true≢false (sym k))

since_step : (test from : Event → Bool) (e : Event) (past : List Event) → (has test (since from past) ≡ true → has test past ≡ true) → (t : Bool) → has test (cond t [] (e ∷ since from past)) ≡ true → has test (e ∷ past) ≡ true
since_step test from e past ih true k = cc
since_step test from e past ih false k = elim (has_cases (test e) (has test (since from past)) k) [ inl m ↦ rw m refl | inr m ↦ has_more test e past (ih m) ]

pub has_since : (test from : Event → Bool) (past : List Event) → has test (since from past) ≡ true → has test past ≡ true
has_since test from [] h = h
has_since test from (e ∷ past) h = since_step test from e past (has_since test from past) (from e) h

part_step : (test : Event → Bool) (r : ℕ) (e : Event) (past : List Event) → (has test (part r past) ≡ true → has test past ≡ true) → (t : Bool) → has test (cond t (e ∷ part r past) (part r past)) ≡ true → has test (e ∷ past) ≡ true
part_step test r e past ih true k = elim (has_cases (test e) (has test (part r past)) k) [ inl m ↦ rw m refl | inr m ↦ has_more test e past (ih m) ]
part_step test r e past ih false k = has_more test e past (ih k)

pub has_of_part : (test : Event → Bool) (r : ℕ) (past : List Event) → has test (part r past) ≡ true → has test past ≡ true
has_of_part test r [] h = h
has_of_part test r (e ∷ past) h = part_step test r e past (has_of_part test r past) (e.by == r) h

greatest_step : (tells : Event → Option ℕ) (from : Event → Bool) (e : Event) (past : List Event) → greatest tells (since from past) ≤ greatest tells past → (t : Bool) → (o : Option ℕ) → tells e ≡ o → greatest tells (cond t [] (e ∷ since from past)) ≤ max_with o (greatest tells past)
greatest_step tells from e past ih true o h = omega arith
greatest_step tells from e past ih false None h = rw h ih
greatest_step tells from e past ih false (Some x) h = rw h (omega arith)

pub greatest_since : (tells : Event → Option ℕ) (from : Event → Bool) (past : List Event) → greatest tells (since from past) ≤ greatest tells past
greatest_since tells from [] = omega arith
greatest_since tells from (e ∷ past) = greatest_step tells from e past (greatest_since tells from past) (from e) (tells e) refl

-- what stands in the regions, beside what r knows of them
pub record NoGaps (c : Config) (p : ℕ) (past : List Event) : Type 0 where
  pub stands : (i : ℕ) → landed_at p i past ≡ true → i < length (region_log p past)
  pub fuo : region_fuo p past ≤ length (region_log p past)
  pub read : (r : ℕ) → greatest_fuo_read r p (part r past) ≤ region_fuo p past
  pub filled : (r j : ℕ) → is_filled c r p (part r past) j ≡ true → j < length (region_log p past)

-- each position below one that may be put stands already
brought_stands : (c : Config) (r p j : ℕ) (past : List Event) → NoGaps c p past → is_caught_up_at c r p (part r past) j ≡ true → j < length (region_log p past)
brought_stands c r p j past g h =
    elim (or_cases (nat_lt j (greatest_fuo_read r p (leadership r (part r past)))) (has (λ e. is_known_put (known c r (part r past)) r p j e.by e.verb e.answer) (leadership r (part r past))) h) [
      | inl k ↦ (let a = ltb-true j (greatest_fuo_read r p (leadership r (part r past))) k in let b = greatest_since (λ e. fuo_read r p e.by e.verb e.answer) (begins_leadership r) (part r past) in let d = g.read r in let f = g.fuo in omega arith)
      | inr k ↦ g.stands j (has_of_part (λ e. is_landed_at p j e.verb e.answer) r past (has_since (λ e. is_landed_at p j e.verb e.answer) (begins_leadership r) (part r past)
          (has_implied (λ e. is_known_put (known c r (part r past)) r p j e.by e.verb e.answer) (λ e. is_landed_at p j e.verb e.answer) (λ e m. known_put_lands (known c r (part r past)) r p j e.by e.verb e.answer m) (leadership r (part r past)) k)))
    ]
  where
    known_put_lands : (values : List ℕ) (r p j by : ℕ) (v : Verb) (a : Answer) → is_known_put values r p j by v a ≡ true → is_landed_at p j v a ≡ true
    known_put_lands values r p j by (Verb.PutSlot q i b w) Answer.Done m =
        let x = and_parts (by == r) ((q == p) && ((i == j) && is_value (slice_get values j) w)) m in
        let y = and_parts (q == p) ((i == j) && is_value (slice_get values j) w) x.1 in
        let z = and_parts (i == j) (is_value (slice_get values j) w) y.1 in
        and_from (q == p) (i == j) y.0 z.0
    known_put_lands values r p j by v a m = absurd (true≢false (sym m))

pub below_all : (c : Config) (r p i n : ℕ) (past : List Event) → NoGaps c p past → ((j : ℕ) → j < i → is_caught_up_at c r p (part r past) j ≡ true) → i ≤ length (region_log p past)
below_all c r p zero n past g f = omega arith
below_all c r p (suc j) n past g f = let k = brought_stands c r p j past g (f j (omega arith)) in omega arith

pub length_put : (log : List (ℕ × ℕ)) (i : ℕ) (z : ℕ × ℕ) → (length log ≤ length (put_in' log i z)) × (i ≤ length log → i < length (put_in' log i z))
length_put log i z = go (i == length log) refl
  where
    go : (t : Bool) → (i == length log) ≡ t → (length log ≤ length (cond t (log ++ z ∷ []) (set log i z))) × (i ≤ length log → i < length (cond t (log ++ z ∷ []) (set log i z)))
    go true h = let l = length_push log z in let e = eqb-true i (length log) h in (omega arith, λ k. omega arith)
    go false h = let l = length-set log i z in let e = eqb-false i (length log) h in (omega arith, λ k. omega arith)

-- what holds of the part before the step, and with it if the step is r's own
pub at_part : (P : List Event → Type 0) (r : ℕ) (e : Event) (past : List Event) → P (part r past) → ((e.by == r) ≡ true → P (e ∷ part r past)) → P (part r (e ∷ past))
at_part P r e past a b = go (e.by == r) refl
  where
    go : (t : Bool) → (e.by == r) ≡ t → P (cond t (e ∷ part r past) (part r past))
    go true h = b h
    go false h = a

gaps_fuo : (c : Config) (p by q : ℕ) (past : List Event) → NoGaps c p past → NoGaps c p (event_after c past by (Verb.Fuo q) ∷ past)
gaps_fuo c p by q past g = record {
  stands = g.stands;
  fuo = g.fuo;
  read = λ r. at_part (λ J. greatest_fuo_read r p J ≤ region_fuo p past) r (event_after c past by (Verb.Fuo q)) past (g.read r) (λ _. read_own r ((by == r) && (q == p)) refl);
  filled = λ r j. at_part (λ J. is_filled c r p J j ≡ true → j < length (region_log p past)) r (event_after c past by (Verb.Fuo q)) past (g.filled r j) (λ _ h. filled_own r j h);
}
  where
    read_own : (r : ℕ) (t : Bool) → ((by == r) && (q == p)) ≡ t → max_with (cond t (Some (region_fuo q past)) None) (greatest_fuo_read r p (part r past)) ≤ region_fuo p past
    read_own r true h = let k = g.read r in let i : region_fuo q past ≡ region_fuo p past = ap (λ x. region_fuo x past) (eqb-true q p (and_parts (by == r) (q == p) h).1) in omega arith
    read_own r false h = g.read r

    filled_own : (r j : ℕ) → ((by == r) && ((q == p) && nat_lt j (region_fuo q past)) || is_filled c r p (part r past) j) ≡ true → j < length (region_log p past)
    filled_own r j h =
        elim (or_cases ((by == r) && ((q == p) && nat_lt j (region_fuo q past))) (is_filled c r p (part r past) j) h) [
          | inl k ↦ (let m = and_parts (q == p) (nat_lt j (region_fuo q past)) (and_parts (by == r) ((q == p) && nat_lt j (region_fuo q past)) k).1 in
              let i : region_fuo q past ≡ region_fuo p past = ap (λ x. region_fuo x past) (eqb-true q p m.0) in
              let l = ltb-true j (region_fuo q past) m.1 in let f = g.fuo in omega arith)
          | inr k ↦ g.filled r j k
        ]

gaps_raise : (c : Config) (p by q u : ℕ) (past : List Event) → Needs c by (part by past) (Verb.RaiseFuo q u) → NoGaps c p past → NoGaps c p (event_after c past by (Verb.RaiseFuo q u) ∷ past)
gaps_raise c p by q u past may g = record {
  stands = g.stands;
  fuo = fuo_kept (q == p) refl;
  read = λ r. at_part (λ J. greatest_fuo_read r p J ≤ max_with (cond (q == p) (Some u) None) (region_fuo p past)) r (event_after c past by (Verb.RaiseFuo q u)) past (raised (q == p) r) (λ _. raised (q == p) r);
  filled = λ r j. at_part (λ J. is_filled c r p J j ≡ true → j < length (region_log p past)) r (event_after c past by (Verb.RaiseFuo q u)) past (g.filled r j) (λ _. g.filled r j);
}
  where
    raised : (t : Bool) (r : ℕ) → greatest_fuo_read r p (part r past) ≤ max_with (cond t (Some u) None) (region_fuo p past)
    raised true r = let k = g.read r in omega arith
    raised false r = g.read r

    below : (u : ℕ) → all_below u (is_filled c by p (part by past)) ≡ true → u ≤ length (region_log p past)
    below zero h = omega arith
    below (suc j) h = g.filled by j (and_parts (is_filled c by p (part by past) j) (all_below j (is_filled c by p (part by past))) h).0

    fuo_kept : (t : Bool) → (q == p) ≡ t → max_with (cond t (Some u) None) (region_fuo p past) ≤ length (region_log p past)
    fuo_kept true h = let k = below u (subst (λ x. all_below u (is_filled c by x (part by past)) ≡ true) (eqb-true q p h) (raise_facts c by (part by past) q u may)) in let f = g.fuo in omega arith
    fuo_kept false h = g.fuo

entry_stands : (log : List (ℕ × ℕ)) (i b v : ℕ) → shown (slice_get log i) ≡ Answer.Entry b v → slice_get log i ≡ Some (b, v)
entry_stands log i b v = go (slice_get log i)
  where
    go : (o : Option (ℕ × ℕ)) → shown o ≡ Answer.Entry b v → o ≡ Some (b, v)
    go None e = cc
    go (Some y) e = ap Some (pair y e)
      where
        pair : (y : ℕ × ℕ) → Answer.Entry y.0 y.1 ≡ Answer.Entry b v → y ≡ (b, v)
        pair (x, z) k = cc

-- a look that is answered by an entry shows what stands
abbrev pub look_reply : ℕ → List (ℕ × ℕ) → ℕ → Answer
look_reply ring log i = cond (nat_lt (i + ring) (length log)) Answer.Past (shown (slice_get log i))

pub look_stands : (ring : ℕ) (log : List (ℕ × ℕ)) (i b v : ℕ) → look_reply ring log i ≡ Answer.Entry b v → slice_get log i ≡ Some (b, v)
look_stands ring log i b v = go (nat_lt (i + ring) (length log))
  where
    go : (t : Bool) → cond t Answer.Past (shown (slice_get log i)) ≡ Answer.Entry b v → slice_get log i ≡ Some (b, v)
    go true e = cc
    go false e = entry_stands log i b v e

gaps_look : (c : Config) (p by q i : ℕ) (past : List Event) → NoGaps c p past → (a : Answer) → look_reply c.ring (region_log q past) i ≡ a → NoGaps c p (record { by = by; verb = Verb.Look q i; answer = a } ∷ past)
gaps_look c p by q i past g (Answer.Entry b v) e = record {
  stands = g.stands;
  fuo = g.fuo;
  read = λ r. at_part (λ J. greatest_fuo_read r p J ≤ region_fuo p past) r (record { by = by; verb = Verb.Look q i; answer = Answer.Entry b v }) past (g.read r) (λ _. g.read r);
  filled = λ r j. at_part (λ J. is_filled c r p J j ≡ true → j < length (region_log p past)) r (record { by = by; verb = Verb.Look q i; answer = Answer.Entry b v }) past (g.filled r j) (λ _ h. own r j h);
}
  where
    own : (r j : ℕ) → is_filled c r p (record { by = by; verb = Verb.Look q i; answer = Answer.Entry b v } ∷ part r past) j ≡ true → j < length (region_log p past)
    own r j h =
        let now : List Event = record { by = by; verb = Verb.Look q i; answer = Answer.Entry b v } ∷ part r past in
        let last : Bool = (length (known c r (part r past)) == j) && (length (known c r now) == j + 1) in
        elim (or_cases ((by == r) && ((p == r) && ((q == r) && ((i == j) && last)))) (is_filled c r p (part r past) j) h) [
          | inl k ↦ (let m = and_parts (p == r) ((q == r) && ((i == j) && last)) (and_parts (by == r) ((p == r) && ((q == r) && ((i == j) && last))) k).1 in
              let n = and_parts (q == r) ((i == j) && last) m.1 in
              let o = and_parts (i == j) last n.1 in
              let same : q ≡ p = eqb-true q r n.0 ∙ sym (eqb-true p r m.0) in
              let l : i < length (region_log q past) = slice_get_within (region_log q past) i (b, v) (look_stands c.ring (region_log q past) i b v e) in
              let s : length (region_log q past) ≡ length (region_log p past) = ap (λ x. length (region_log x past)) same in
              let t = eqb-true i j o.0 in omega arith)
          | inr k ↦ g.filled r j k
        ]
gaps_look c p by q i past g a e = record {
  stands = g.stands;
  fuo = g.fuo;
  read = λ r. at_part (λ J. greatest_fuo_read r p J ≤ region_fuo p past) r (record { by = by; verb = Verb.Look q i; answer = a }) past (g.read r) (λ _. g.read r);
  filled = λ r j. at_part (λ J. is_filled c r p J j ≡ true → j < length (region_log p past)) r (record { by = by; verb = Verb.Look q i; answer = a }) past (g.filled r j) (λ _. g.filled r j);
}

put_done_lands : (r p j b v by : ℕ) (verb : Verb) (a : Answer) → is_put_done r p j b v by verb a ≡ true → is_landed_at p j verb a ≡ true
put_done_lands r p j b v by (Verb.PutSlot q i n w) Answer.Done m =
    let x = and_parts (by == r) ((q == p) && ((i == j) && ((n == b) && (w == v)))) m in
    let y = and_parts (q == p) ((i == j) && ((n == b) && (w == v))) x.1 in
    let z = and_parts (i == j) ((n == b) && (w == v)) y.1 in
    and_from (q == p) (i == j) y.0 z.0
put_done_lands r p j b v by verb a m = absurd (true≢false (sym m))

-- what a filled position rests on, if the step is a put that landed
put_filled : (c : Config) (r p j by q i b v : ℕ) (past : List Event) → is_filled c r p (record { by = by; verb = Verb.PutSlot q i b v; answer = Answer.Done } ∷ part r past) j ≡ true
    → (landed_at p j (record { by = by; verb = Verb.PutSlot q i b v; answer = Answer.Done } ∷ past) ≡ true) ⊎ (is_filled c r p (part r past) j ≡ true)
put_filled c r p j by q i b v past h =
    let e : Event = record { by = by; verb = Verb.PutSlot q i b v; answer = Answer.Done } in
    let now : List Event = e ∷ part r past in
    let here : Bool = (q == p) && ((i == j) && is_value (slice_get (known c r (part r past)) j) v) in
    let there : Bool = (length (known c r (part r past)) == j) && ((length (known c r now) == j + 1) && has (lands_entry r p j b v) (leadership r now)) in
    elim (or_cases ((by == r) && (here || there)) (is_filled c r p (part r past) j) h) [
      | inl k ↦ inl (elim (or_cases here there (and_parts (by == r) (here || there) k).1) [
        | inl m ↦ (let x = and_parts (q == p) ((i == j) && is_value (slice_get (known c r (part r past)) j) v) m in
            let y = and_parts (i == j) (is_value (slice_get (known c r (part r past)) j) v) x.1 in rw (x.0, y.0) refl)
        | inr m ↦ (let x = and_parts (length (known c r (part r past)) == j) ((length (known c r now) == j + 1) && has (lands_entry r p j b v) (leadership r now)) m in
            let y = and_parts (length (known c r now) == j + 1) (has (lands_entry r p j b v) (leadership r now)) x.1 in
            let z : has (λ f. is_landed_at p j f.verb f.answer) now ≡ true = has_implied (lands_entry r p j b v) (λ f. is_landed_at p j f.verb f.answer) (λ f n. put_done_lands r p j b v f.by f.verb f.answer n) now (has_since (lands_entry r p j b v) (begins_leadership r) now y.1) in
            elim (has_cases (is_landed_at p j e.verb e.answer) (has (λ f. is_landed_at p j f.verb f.answer) (part r past)) z) [
              | inl n ↦ rw n refl
              | inr n ↦ has_more (λ f. is_landed_at p j f.verb f.answer) e past (has_of_part (λ f. is_landed_at p j f.verb f.answer) r past n)
            ])
      ])
      | inr k ↦ inr k
    ]

gaps_put : (c : Config) (p by q i b v : ℕ) (past : List Event) → Needs c by (part by past) (Verb.PutSlot q i b v) → NoGaps c p past → (a : Answer) → NoGaps c p (record { by = by; verb = Verb.PutSlot q i b v; answer = a } ∷ past)
gaps_put c p by q i b v past may g Answer.Done = record {
  stands = stands';
  fuo = (let f = g.fuo in let l = grows (q == p) in omega arith);
  read = λ r. at_part (λ J. greatest_fuo_read r p J ≤ region_fuo p past) r e past (g.read r) (λ _. g.read r);
  filled = λ r j. at_part (λ J. is_filled c r p J j ≡ true → j < length (region_log p (e ∷ past))) r e past (λ h. further r j (g.filled r j h))
      (λ _ h. elim (put_filled c r p j by q i b v past h) [ inl k ↦ stands' j k | inr k ↦ further r j (g.filled r j k) ]);
}
  where
    e : Event
    e = record { by = by; verb = Verb.PutSlot q i b v; answer = Answer.Done }

    grows : (t : Bool) → length (region_log p past) ≤ length (cond t (put_in' (region_log p past) i (b, v)) (region_log p past))
    grows true = (length_put (region_log p past) i (b, v)).0
    grows false = omega arith

    further : (r j : ℕ) → j < length (region_log p past) → j < length (region_log p (record { by = by; verb = Verb.PutSlot q i b v; answer = Answer.Done } ∷ past))
    further r j h = let l = grows (q == p) in omega arith

    stands_at : (j : ℕ) (t : Bool) → (q == p) ≡ t → (u : Bool) → (i == j) ≡ u → cond (t && u) true (landed_at p j past) ≡ true → j < length (cond t (put_in' (region_log p past) i (b, v)) (region_log p past))
    stands_at j true h true k m =
        let f : i ≤ length (region_log p past) = below_all c by p i 0 past g (subst (λ x. (j : ℕ) → j < i → is_caught_up_at c by x (part by past) j ≡ true) (eqb-true q p h) (put_facts c by (part by past) q i b v may).caught_up) in
        let l = (length_put (region_log p past) i (b, v)).1 f in let n = eqb-true i j k in omega arith
    stands_at j true h false k m = let l = (length_put (region_log p past) i (b, v)).0 in let s = g.stands j m in omega arith
    stands_at j false h u k m = g.stands j m

    stands' : (j : ℕ) → landed_at p j (record { by = by; verb = Verb.PutSlot q i b v; answer = Answer.Done } ∷ past) ≡ true → j < length (region_log p (record { by = by; verb = Verb.PutSlot q i b v; answer = Answer.Done } ∷ past))
    stands' j m = stands_at j (q == p) refl (i == j) refl m
gaps_put c p by q i b v past may g a = record {
  stands = g.stands;
  fuo = g.fuo;
  read = λ r. at_part (λ J. greatest_fuo_read r p J ≤ region_fuo p past) r (record { by = by; verb = Verb.PutSlot q i b v; answer = a }) past (g.read r) (λ _. g.read r);
  filled = λ r j. at_part (λ J. is_filled c r p J j ≡ true → j < length (region_log p past)) r (record { by = by; verb = Verb.PutSlot q i b v; answer = a }) past (g.filled r j) (λ _. g.filled r j);
}

gaps_step : (c : Config) (p by : ℕ) (v : Verb) (past : List Event) → Needs c by (part by past) v → NoGaps c p past → NoGaps c p (event_after c past by v ∷ past)
gaps_step c p by (Verb.Fuo q) past may g = gaps_fuo c p by q past g
gaps_step c p by (Verb.RaiseFuo q u) past may g = gaps_raise c p by q u past may g
gaps_step c p by (Verb.Look q i) past may g = gaps_look c p by q i past g (look_reply c.ring (region_log q past) i) refl
gaps_step c p by (Verb.PutSlot q i b w) past may g = gaps_put c p by q i b w past may g (put_answer (drained by q past))
gaps_step c p by v past may g = record {
  stands = g.stands;
  fuo = g.fuo;
  read = λ r. at_part (λ J. greatest_fuo_read r p J ≤ region_fuo p past) r (event_after c past by v) past (g.read r) (λ _. g.read r);
  filled = λ r j. at_part (λ J. is_filled c r p J j ≡ true → j < length (region_log p past)) r (event_after c past by v) past (g.filled r j) (λ _. g.filled r j);
}

pub no_gaps : (c : Config) (p : ℕ) (past : List Event) → IsLegalHistory c past → NoGaps c p past
no_gaps c p = legal_induction c (NoGaps c p) (record { stands = λ i h. cc; fuo = omega arith; read = λ r. omega arith; filled = λ r j h. cc }) (λ past by v h may g. gaps_step c p by v past may.may g)
