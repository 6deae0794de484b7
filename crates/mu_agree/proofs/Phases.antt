-- The first moment of choice, and the laws of agreement.
use Rattle.std.proofs.Common.{◌≡◌, ℕ, zero, suc, ◌+◌, ◌<◌, ◌≤◌, ◌⊎◌, inl, inr, Bool, true, false, cond, ◌&&◌, ◌||◌, ◌==◌, List, [], ◌∷◌, refl, sym, ◌∙◌, ap, arith, Some, None, subst, eqb-true, true≢false, length}
use Rattle.std.specs.declared.option.Option.{Option}
use Rattle.std.specs.Prelude.{nat_lt, nat_le}
use Rattle.std.specs.List.{slice_get}
use Rattle.std.proofs.lemmas.Option.{slice_get_within}
use Rattle.std.proofs.lemmas.Bool.{and_parts, eq-eqb, or_cases, ltb-true, leb-true, leb-false}
use Rattle.mu_model.specs.declared.config.Config.{Config}
use Rattle.mu_model.specs.declared.event.Event.{Event}
use Rattle.mu_model.specs.declared.event.Verb.{Verb}
use Rattle.mu_model.specs.declared.event.Answer.{Answer}
use Rattle.mu_agree.specs.Agreement.{AtMostOneChosen, FuoIsChosen, KnownIsChosen}
use Rattle.mu_model.specs.Allowed.{Allowed, Needs}
use Rattle.mu_model.specs.Answers.{drained, put_answer}
use Rattle.mu_model.specs.Histories.{count_below, has, history, max_with, part}
use Rattle.mu_model.specs.Knowledge.{grown, is_filled, is_value, known, lands_entry, learnt_by}
use Rattle.mu_model.specs.Leaderships.{is_first_ask, leadership, majority_of, proposal_number}
use Rattle.mu_model.specs.Legal.{IsLegalHistory}
use Rattle.mu_model.specs.Regions.{region_fuo, region_log, region_min}
use Rattle.mu_agree.proofs.Legal.{event_after, legal_induction}
use Rattle.mu_agree.proofs.Counting.{count_more}
use Rattle.mu_agree.proofs.Knowing.{Teaches, teaches, by_put, by_look}
use Rattle.mu_agree.proofs.Landings.{at_part, look_reply, has_cases, has_implied}
use Rattle.mu_agree.proofs.Landed.{has_landed, landed_facts, landed_stays}
use Rattle.mu_agree.proofs.Looks.{member_reached, number_back}
use Rattle.mu_agree.proofs.Offers.{first_offered, at_part'}
use Rattle.mu_agree.proofs.Choice.{Chosen}
use Rattle.mu_agree.proofs.Early.{Protected, Early, early_start, early_step, early_own, early_safe, early_short, unprotected, position_within, accepted_chosen, trusted_is_protected, past_end}
use Rattle.mu_agree.proofs.Late.{Base, base_start, chosen_is, chosen_now}
use Rattle.mu_agree.proofs.Tame.{known_longer}
use Rattle.mu_agree.proofs.Settled.{Late, Settled, Know, Copied, puts_it, has_put_it}
use Rattle.mu_agree.proofs.Agreement.{get_more, slot_at, puts_at_members}
use Rattle.mu_agree.proofs.Copies.{it_is_at}
use Rattle.mu_agree.proofs.Filled.{filled_put, late_step, value_is}
use Rattle.mu_model.proofs.Basics.{same_some}
use Rattle.mu_model.proofs.Putting.{put_facts}

-- a put of a leadership carries its number
abbrev pub Carries : ℕ → ℕ → ℕ → ℕ → List Event → List Event → Type 0
Carries i V r p past J = (b : ℕ) → has_put_it i V r p J ≡ true → proposal_number r J ≡ Some b → has_landed p i b V past ≡ true

carries_ask : (c : Config) (i V r p by q : ℕ) (past J : List Event) → Carries i V r p past J → (t : Bool) → is_first_ask r by (Verb.Ask q) ≡ t → Carries i V r p past (event_after c past by (Verb.Ask q) ∷ J)
carries_ask c i V r p by q past J s true h = rw h (λ b m. absurd (true≢false (sym m)))
carries_ask c i V r p by q past J s false h = rw h s

carries_put : (c : Config) (i V r p by q j n w : ℕ) (past : List Event) → Needs c r (part r past) (Verb.PutSlot q j n w) → Carries i V r p past (part r past) → (by == r) ≡ true → (a : Answer)
    → Carries i V r p (record { by = by; verb = Verb.PutSlot q j n w; answer = a } ∷ past) (record { by = by; verb = Verb.PutSlot q j n w; answer = a } ∷ part r past)
carries_put c i V r p by q j n w past may s hx Answer.Done b m o =
    elim (has_cases ((by == r) && ((q == p) && ((j == i) && (w == V)))) (has_put_it i V r p (part r past)) m) [
      | inl k ↦ (let x = and_parts (by == r) ((q == p) && ((j == i) && (w == V))) k in
          let y = and_parts (q == p) ((j == i) && (w == V)) x.1 in
          let z = and_parts (j == i) (w == V) y.1 in
          let u : (n == b) ≡ true = eq-eqb n b (same_some n b (sym (put_facts c r (part r past) q j n w may).numbered ∙ o)) in rw (y.0, z.0, u, z.1) refl)
      | inr k ↦ landed_stays p i b V (record { by = by; verb = Verb.PutSlot q j n w; answer = Answer.Done }) past (s b k o)
    ]
carries_put c i V r p by q j n w past may s hx a b m o = s b m o

carries_min : (c : Config) (i V r p by q b : ℕ) (past : List Event) → IsLegalHistory c past → Carries i V r p past (part r past) → (by == r) ≡ true → (a : Answer) → Carries i V r p past (record { by = by; verb = Verb.PutMin q b; answer = a } ∷ part r past)
carries_min c i V r p by q b past h s hx a = rw hx (λ n m o. s n m (number_back b n (region_min p past) (proposal_number r (part r past)) (member_reached c r p past h (puts_at_members c r p past h (has_implied (λ e. puts_it i V r p e.by e.verb e.answer) (λ e. slot_at r p e.by e.verb) (λ e k. it_is_at i V r p e.by e.verb e.answer k) (leadership r (part r past)) m))) o))

carries_step : (c : Config) (i V r p by : ℕ) (v : Verb) (past : List Event) → IsLegalHistory c past → Needs c by (part by past) v → Carries i V r p past (part r past) → Carries i V r p (event_after c past by v ∷ past) (part r (event_after c past by v ∷ past))
carries_step c i V r p by (Verb.Ask q) past h may s = at_part (Carries i V r p past) r (event_after c past by (Verb.Ask q)) past s (λ _. carries_ask c i V r p by q past (part r past) s (is_first_ask r by (Verb.Ask q)) refl)
carries_step c i V r p by (Verb.PutMin q b) past h may s = at_part (Carries i V r p past) r (event_after c past by (Verb.PutMin q b)) past s (λ hx. carries_min c i V r p by q b past h s hx (put_answer (drained by q past)))
carries_step c i V r p by (Verb.PutSlot q j n w) past h may s = at_part (Carries i V r p (event_after c past by (Verb.PutSlot q j n w) ∷ past)) r (event_after c past by (Verb.PutSlot q j n w)) past
    (λ b m o. landed_stays p i b V (event_after c past by (Verb.PutSlot q j n w)) past (s b m o))
    (λ hx. carries_put c i V r p by q j n w past (subst (λ z. Needs c z (part z past) (Verb.PutSlot q j n w)) (eqb-true by r hx) may) s hx (put_answer (drained by q past)))
carries_step c i V r p by v past h may s = at_part (Carries i V r p past) r (event_after c past by v) past s (λ _. s)

carries : (c : Config) (i V r p : ℕ) (past : List Event) → IsLegalHistory c past → Carries i V r p past (part r past)
carries c i V r p = legal_induction c (λ past. Carries i V r p past (part r past)) (λ b m. absurd (true≢false (sym m))) (λ past by v h may s. carries_step c i V r p by v past h may.may s)

-- a filled position is known, or below the FUO
abbrev pub FilledKnown : Config → ℕ → ℕ → ℕ → List Event → List Event → Type 0
FilledKnown c i r p past J = is_filled c r p J i ≡ true → (i < length (known c r J)) ⊎ (i < region_fuo p past)

more_known : (c : Config) (i r p : ℕ) (e : Event) (past J : List Event) → (i < length (known c r J)) ⊎ (i < region_fuo p past) → (i < length (known c r (e ∷ J))) ⊎ (i < region_fuo p past)
more_known c i r p e past J (inl k) = inl (let l = known_longer c r e J in omega arith)
more_known c i r p e past J (inr k) = inr k

fk_fuo : (c : Config) (i r p by q : ℕ) (past J : List Event) → FilledKnown c i r p past J → FilledKnown c i r p past (event_after c past by (Verb.Fuo q) ∷ J)
fk_fuo c i r p by q past J s h = elim (or_cases ((by == r) && ((q == p) && nat_lt i (region_fuo q past))) (is_filled c r p J i) h) [
  | inl k ↦ (let m = and_parts (q == p) (nat_lt i (region_fuo q past)) (and_parts (by == r) ((q == p) && nat_lt i (region_fuo q past)) k).1 in
      inr (subst (λ z. i < region_fuo z past) (eqb-true q p m.0) (ltb-true i (region_fuo q past) m.1)))
  | inr k ↦ s k
]

fk_look : (c : Config) (i r p by q j : ℕ) (past J : List Event) → FilledKnown c i r p past J → (a : Answer) → FilledKnown c i r p past (record { by = by; verb = Verb.Look q j; answer = a } ∷ J)
fk_look c i r p by q j past J s (Answer.Entry b v) m =
    let now : List Event = record { by = by; verb = Verb.Look q j; answer = Answer.Entry b v } ∷ J in
    let last : Bool = (length (known c r J) == i) && (length (known c r now) == i + 1) in
    elim (or_cases ((by == r) && ((p == r) && ((q == r) && ((j == i) && last)))) (is_filled c r p J i) m) [
      | inl k ↦ (let x = and_parts (p == r) ((q == r) && ((j == i) && last)) (and_parts (by == r) ((p == r) && ((q == r) && ((j == i) && last))) k).1 in
          let z = and_parts (j == i) last (and_parts (q == r) ((j == i) && last) x.1).1 in
          let u = eqb-true (length (known c r now)) (i + 1) (and_parts (length (known c r J) == i) (length (known c r now) == i + 1) z.1).1 in inl (omega arith))
      | inr k ↦ more_known c i r p (record { by = by; verb = Verb.Look q j; answer = Answer.Entry b v }) past J (s k)
    ]
fk_look c i r p by q j past J s a m = more_known c i r p (record { by = by; verb = Verb.Look q j; answer = a }) past J (s m)

fk_put : (c : Config) (i r p by q j n w : ℕ) (past J : List Event) → FilledKnown c i r p past J → (a : Answer) → FilledKnown c i r p past (record { by = by; verb = Verb.PutSlot q j n w; answer = a } ∷ J)
fk_put c i r p by q j n w past J s Answer.Done m =
    let now : List Event = record { by = by; verb = Verb.PutSlot q j n w; answer = Answer.Done } ∷ J in
    let here : Bool = (q == p) && ((j == i) && is_value (slice_get (known c r J) i) w) in
    let there : Bool = (length (known c r J) == i) && ((length (known c r now) == i + 1) && has (lands_entry r p i n w) (leadership r now)) in
    elim (or_cases ((by == r) && (here || there)) (is_filled c r p J i) m) [
      | inl k ↦ elim (or_cases here there (and_parts (by == r) (here || there) k).1) [
        | inl u ↦ (let y = and_parts (j == i) (is_value (slice_get (known c r J) i) w) (and_parts (q == p) ((j == i) && is_value (slice_get (known c r J) i) w) u).1 in
            let l = slice_get_within (known c r J) i w (value_is (slice_get (known c r J) i) w y.1) in
            let g = known_longer c r (record { by = by; verb = Verb.PutSlot q j n w; answer = Answer.Done }) J in inl (omega arith))
        | inr u ↦ (let y = and_parts (length (known c r now) == i + 1) (has (lands_entry r p i n w) (leadership r now)) (and_parts (length (known c r J) == i) ((length (known c r now) == i + 1) && has (lands_entry r p i n w) (leadership r now)) u).1 in
            let l = eqb-true (length (known c r now)) (i + 1) y.0 in inl (omega arith))
      ]
      | inr k ↦ more_known c i r p (record { by = by; verb = Verb.PutSlot q j n w; answer = Answer.Done }) past J (s k)
    ]
fk_put c i r p by q j n w past J s a m = more_known c i r p (record { by = by; verb = Verb.PutSlot q j n w; answer = a }) past J (s m)

fk_raise : (c : Config) (i r p by q u : ℕ) (past J : List Event) → (i < length (known c r J)) ⊎ (i < region_fuo p past) → (t : Bool) → (i < length (known c r J)) ⊎ (i < max_with (cond t (Some u) None) (region_fuo p past))
fk_raise c i r p by q u past J (inl k) t = inl k
fk_raise c i r p by q u past J (inr k) true = inr (omega arith)
fk_raise c i r p by q u past J (inr k) false = inr k

fk_step : (c : Config) (i r p by : ℕ) (v : Verb) (past : List Event) → FilledKnown c i r p past (part r past) → FilledKnown c i r p (event_after c past by v ∷ past) (part r (event_after c past by v ∷ past))
fk_step c i r p by (Verb.Fuo q) past s = at_part (FilledKnown c i r p past) r (event_after c past by (Verb.Fuo q)) past s (λ _. fk_fuo c i r p by q past (part r past) s)
fk_step c i r p by (Verb.Look q j) past s = at_part (FilledKnown c i r p past) r (event_after c past by (Verb.Look q j)) past s (λ _. fk_look c i r p by q j past (part r past) s (look_reply c.ring (region_log q past) j))
fk_step c i r p by (Verb.PutSlot q j n w) past s = at_part (FilledKnown c i r p past) r (event_after c past by (Verb.PutSlot q j n w)) past s (λ _. fk_put c i r p by q j n w past (part r past) s (put_answer (drained by q past)))
fk_step c i r p by (Verb.RaiseFuo q u) past s = at_part (FilledKnown c i r p (event_after c past by (Verb.RaiseFuo q u) ∷ past)) r (event_after c past by (Verb.RaiseFuo q u)) past (λ m. fk_raise c i r p by q u past (part r past) (s m) (q == p)) (λ _ m. fk_raise c i r p by q u past (part r past) (s m) (q == p))
fk_step c i r p by v past s = at_part (FilledKnown c i r p past) r (event_after c past by v) past s (λ _ m. more_known c i r p (event_after c past by v) past (part r past) (s m))

filled_known : (c : Config) (i r p : ℕ) (past : List Event) → IsLegalHistory c past → FilledKnown c i r p past (part r past)
filled_known c i r p = legal_induction c (λ past. FilledKnown c i r p past (part r past)) (λ m. absurd (true≢false (sym m))) (λ past by v h may s. fk_step c i r p by v past s)

-- the put that chooses
late_start : (c : Config) (i by q j n w : ℕ) (past : List Event) → IsLegalHistory c past → Allowed c by (part by past) (Verb.PutSlot q j n w) → Early c i past
    → Chosen c i n w (event_after c past by (Verb.PutSlot q j n w) ∷ past)
    → Late c i w n (λ p. has_landed p i n w (event_after c past by (Verb.PutSlot q j n w) ∷ past)) (event_after c past by (Verb.PutSlot q j n w) ∷ past)
late_start c i by q j n w past h al s ch = record { base = base'; knows = knows'; settled = λ p k. absurd (none p k); filled = filled'; copied = copied' }
  where
    f : Event
    f = event_after c past by (Verb.PutSlot q j n w)

    legal : IsLegalHistory c (event_after c past by (Verb.PutSlot q j n w) ∷ past)
    legal = (h, record { allowed = al; answer = refl })

    own' : (p b v : ℕ) → has_landed p i b v (event_after c past by (Verb.PutSlot q j n w) ∷ past) ≡ true → first_offered i b (event_after c past by (Verb.PutSlot q j n w) ∷ past) ≡ Some v
    own' = early_own c i by q j n w past h s al.may (put_answer (drained by q past))

    base' : Base c i w n (λ p. has_landed p i n w (event_after c past by (Verb.PutSlot q j n w) ∷ past)) (event_after c past by (Verb.PutSlot q j n w) ∷ past)
    base' = base_start c i w n (event_after c past by (Verb.PutSlot q j n w) ∷ past) own' (early_safe c i by q j n w past h s al.may) ch

    within : j ≤ i
    within = let k = position_within c by q j n w (part by past) (put_facts c by (part by past) q j n w al.may) in let l = s.unknown by in omega arith

    none : (p : ℕ) → Protected p i (event_after c past by (Verb.PutSlot q j n w) ∷ past) → ⊥
    none p (inl k) = let l = s.fuo p in omega arith
    none p (inr k) = let l = early_short c i by q j n w p past s within (put_answer (drained by q past)) in omega arith

    nothing : Know c i w past
    nothing r x k = absurd (past_end (known c r (part r past)) i x (s.unknown r) k)

    taught_is : (r x : ℕ) (v : Verb) (a : Answer) → Teaches c r (part r past) (event_after c past by (Verb.PutSlot q j n w) ∷ part r past) i x by v a → x ≡ w
    taught_is r x v a (by_put {b = b} o acc) = chosen_is c i w n (λ p. has_landed p i n w (event_after c past by (Verb.PutSlot q j n w) ∷ past)) (event_after c past by (Verb.PutSlot q j n w) ∷ past) base' b x (accepted_chosen c r i b x (event_after c past by (Verb.PutSlot q j n w)) past acc)
    taught_is r x v a (by_look {p = p} o tr) = absurd (unprotected c i p past s (trusted_is_protected c r p i past h tr))

    knows' : Know c i w (event_after c past by (Verb.PutSlot q j n w) ∷ past)
    knows' r x = at_part (λ J. slice_get (known c r J) i ≡ Some x → x ≡ w) r (event_after c past by (Verb.PutSlot q j n w)) past (nothing r x)
        (λ _. go (learnt_by c r (part r past) (length (known c r (part r past))) by (Verb.PutSlot q j n w) (put_answer (drained by q past)) (event_after c past by (Verb.PutSlot q j n w) ∷ part r past)) refl)
      where
        go : (o : Option ℕ) → learnt_by c r (part r past) (length (known c r (part r past))) by (Verb.PutSlot q j n w) (put_answer (drained by q past)) (event_after c past by (Verb.PutSlot q j n w) ∷ part r past) ≡ o → slice_get (grown (known c r (part r past)) o) i ≡ Some x → x ≡ w
        go None e k = nothing r x k
        go (Some y) e k = elim (get_more (known c r (part r past)) i y x k) [
          | inl m ↦ nothing r x m
          | inr m ↦ m.1 ∙ taught_is r y (Verb.PutSlot q j n w) (put_answer (drained by q past))
              (subst (λ z. Teaches c r (part r past) (event_after c past by (Verb.PutSlot q j n w) ∷ part r past) z y by (Verb.PutSlot q j n w) (put_answer (drained by q past))) (sym m.0)
              (teaches c r (length (known c r (part r past))) y by (Verb.PutSlot q j n w) (put_answer (drained by q past)) (part r past) (event_after c past by (Verb.PutSlot q j n w) ∷ part r past) e))
        ]

    unfilled : (r p : ℕ) → is_filled c r p (part r past) i ≡ true → ⊥
    unfilled r p m = elim (filled_known c i r p past h m) [ inl k ↦ (let l = s.unknown r in omega arith) | inr k ↦ (let l = s.fuo p in omega arith) ]

    filled' : (r p : ℕ) → is_filled c r p (part r (event_after c past by (Verb.PutSlot q j n w) ∷ past)) i ≡ true → Settled c i w n (λ p. has_landed p i n w (event_after c past by (Verb.PutSlot q j n w) ∷ past)) p (event_after c past by (Verb.PutSlot q j n w) ∷ past)
    filled' r p = at_part' (λ J. is_filled c r p J i ≡ true → Settled c i w n (λ p. has_landed p i n w (event_after c past by (Verb.PutSlot q j n w) ∷ past)) p (event_after c past by (Verb.PutSlot q j n w) ∷ past)) r (event_after c past by (Verb.PutSlot q j n w)) past
        (λ _ m. absurd (unfilled r p m))
        (λ hx. subst (λ z. is_filled c z p (event_after c past by (Verb.PutSlot q j n w) ∷ part z past) i ≡ true → Settled c i w n (λ p. has_landed p i n w (event_after c past by (Verb.PutSlot q j n w) ∷ past)) p (event_after c past by (Verb.PutSlot q j n w) ∷ past)) (eqb-true by r hx)
        (filled_put c i w n (λ p. has_landed p i n w (event_after c past by (Verb.PutSlot q j n w) ∷ past)) p by q j n w past h al nothing (put_answer (drained by q past)) refl base' (λ m. absurd (unfilled by p m))))

    copied' : (r p : ℕ) → Copied i w r p (event_after c past by (Verb.PutSlot q j n w) ∷ past) (part r (event_after c past by (Verb.PutSlot q j n w) ∷ past))
    copied' r p m o y k =
        let b : ℕ = region_min p past in
        let at = carries c i w r p (event_after c past by (Verb.PutSlot q j n w) ∷ past) legal b m o in
        let facts = landed_facts c p (event_after c past by (Verb.PutSlot q j n w) ∷ past) legal in
        let y_at = facts.in_log i y.0 y.1 k in
        let low = facts.most i b w y at k in
        let high = facts.least i y.0 y.1 y_at in
        let same : y.0 ≡ region_min p past = omega arith in
        same_some y.1 w (sym (own' p y.0 y.1 y_at) ∙ ap (λ z. first_offered i z (event_after c past by (Verb.PutSlot q j n w) ∷ past)) same ∙ own' p b w at)

-- before the choice, or after it
pub data Phase (c : Config) (i : ℕ) (past : List Event) : Type 0 where
  before : Early c i past → ((b x : ℕ) → Chosen c i b x past → ⊥) → Phase c i past
  after : (V B : ℕ) (maj : ℕ → Bool) → Late c i V B maj past → Phase c i past

-- a put chooses nothing but its own value
other_count : (c : Config) (i by q j n w b x : ℕ) (past : List Event) → (a : Answer) → ((n == b) && (w == x)) ≡ false → Chosen c i b x (record { by = by; verb = Verb.PutSlot q j n w; answer = a } ∷ past) → Chosen c i b x past
other_count c i by q j n w b x past Answer.Done e h =
    let k = count_more c.replicas (λ p. has_landed p i b x (record { by = by; verb = Verb.PutSlot q j n w; answer = Answer.Done } ∷ past)) (λ p. has_landed p i b x past) (λ p l m. go (q == p) (j == i) (has_landed p i b x past) (rw e at m)) in omega arith
  where
    go : (t u y : Bool) → cond (t && (u && false)) true y ≡ true → y ≡ true
    go true true y m = m
    go true false y m = m
    go false u y m = m
other_count c i by q j n w b x past a e h = h

phase_put : (c : Config) (i by q j n w : ℕ) (past : List Event) → IsLegalHistory c past → Allowed c by (part by past) (Verb.PutSlot q j n w) → Early c i past → ((b x : ℕ) → Chosen c i b x past → ⊥) → Phase c i (event_after c past by (Verb.PutSlot q j n w) ∷ past)
phase_put c i by q j n w past h al s open' = go (nat_le (majority_of c.replicas) (count_below c.replicas (λ p. has_landed p i n w (event_after c past by (Verb.PutSlot q j n w) ∷ past)))) refl
  where
    go : (t : Bool) → nat_le (majority_of c.replicas) (count_below c.replicas (λ p. has_landed p i n w (event_after c past by (Verb.PutSlot q j n w) ∷ past))) ≡ t → Phase c i (event_after c past by (Verb.PutSlot q j n w) ∷ past)
    go true e = after w n (λ p. has_landed p i n w (event_after c past by (Verb.PutSlot q j n w) ∷ past)) (late_start c i by q j n w past h al s (leb-true (majority_of c.replicas) (count_below c.replicas (λ p. has_landed p i n w (event_after c past by (Verb.PutSlot q j n w) ∷ past))) e))
    go false e = before (early_step c i by (Verb.PutSlot q j n w) past h al.may s still) still
      where
        still : (b x : ℕ) → Chosen c i b x (event_after c past by (Verb.PutSlot q j n w) ∷ past) → ⊥
        still b x k = at ((n == b) && (w == x)) refl
          where
            low : count_below c.replicas (λ p. has_landed p i n w (event_after c past by (Verb.PutSlot q j n w) ∷ past)) < majority_of c.replicas
            low = leb-false (majority_of c.replicas) (count_below c.replicas (λ p. has_landed p i n w (event_after c past by (Verb.PutSlot q j n w) ∷ past))) e

            at : (t : Bool) → ((n == b) && (w == x)) ≡ t → ⊥
            at false m = open' b x (other_count c i by q j n w b x past (put_answer (drained by q past)) m k)
            at true m =
                let y = and_parts (n == b) (w == x) m in
                let k' : Chosen c i n w (event_after c past by (Verb.PutSlot q j n w) ∷ past) = subst (λ z. Chosen c i n z (event_after c past by (Verb.PutSlot q j n w) ∷ past)) (sym (eqb-true w x y.1)) (subst (λ z. Chosen c i z x (event_after c past by (Verb.PutSlot q j n w) ∷ past)) (sym (eqb-true n b y.0)) k) in
                let l = low in omega arith

phase_step : (c : Config) (i by : ℕ) (v : Verb) (past : List Event) → IsLegalHistory c past → Allowed c by (part by past) v → Phase c i past → Phase c i (event_after c past by v ∷ past)
phase_step c i by (Verb.PutSlot q j n w) past h al (before s o) = phase_put c i by q j n w past h al s o
phase_step c i by v past h al (after V B maj s) = after V B maj (late_step c i V B maj by v past h al s)
phase_step c i by v past h al (before s o) = before (early_step c i by v past h al.may s o) o

pub phase : (c : Config) (i : ℕ) (past : List Event) → IsLegalHistory c past → Phase c i past
phase c i = legal_induction c (Phase c i) (before (early_start c i) (λ b x k. nobody c i b x k)) (λ past by v h al s. phase_step c i by v past h al s)
  where
    zero_count : (n i b x : ℕ) → count_below n (λ p. has_landed p i b x []) ≡ 0
    zero_count zero i b x = refl
    zero_count (suc n) i b x = zero_count n i b x

    nobody : (c : Config) (i b x : ℕ) → Chosen c i b x [] → ⊥
    nobody c i b x k = let l = zero_count c.replicas i b x in omega arith

-- at most one value is chosen at a position
pub one_chosen : (c : Config) (i b x d y : ℕ) (past : List Event) → IsLegalHistory c past → Chosen c i b x past → Chosen c i d y past → x ≡ y
one_chosen c i b x d y past h k l = go (phase c i past h)
  where
    go : Phase c i past → x ≡ y
    go (before s o) = absurd (o b x k)
    go (after V B maj s) = chosen_is c i V B maj past s.base b x k ∙ sym (chosen_is c i V B maj past s.base d y l)

-- what is known is chosen
pub record ChosenBy (c : Config) (i v : ℕ) (past : List Event) : Type 0 where
  pub b : ℕ
  pub is : Chosen c i b v past

pub known_chosen : (c : Config) (r i v : ℕ) (past : List Event) → IsLegalHistory c past → slice_get (known c r (part r past)) i ≡ Some v → ChosenBy c i v past
known_chosen c r i v past h k = go (phase c i past h)
  where
    go : Phase c i past → ChosenBy c i v past
    go (before s o) = absurd (past_end (known c r (part r past)) i v (s.unknown r) k)
    go (after V B maj s) = record { b = B; is = subst (λ z. Chosen c i B z past) (sym (s.knows r v k)) (chosen_now c i V B maj past s.base) }

-- a FUO covers chosen values
pub fuo_chosen : (c : Config) (p i : ℕ) (y : ℕ × ℕ) (past : List Event) → IsLegalHistory c past → i < region_fuo p past → slice_get (region_log p past) i ≡ Some y → ChosenBy c i y.1 past
fuo_chosen c p i y past h l k = go (phase c i past h)
  where
    go : Phase c i past → ChosenBy c i y.1 past
    go (before s o) = absurd (let m = s.fuo p in omega arith)
    go (after V B maj s) = record { b = B; is = subst (λ z. Chosen c i B z past) (sym ((s.settled p (inl l)).shows y k)) (chosen_now c i V B maj past s.base) }

pub at_most_one_chosen_law : AtMostOneChosen
at_most_one_chosen_law c events i v w h k l = one_chosen c i k.0 v l.0 w (history events) h k.1 l.1

pub known_is_chosen_law : KnownIsChosen
known_is_chosen_law c events r i v h k = let x = known_chosen c r i v (history events) h k in (x.b, x.is)

pub fuo_is_chosen_law : FuoIsChosen
fuo_is_chosen_law c events p i entry h l k = let x = fuo_chosen c p i entry (history events) h l k in (x.b, x.is)
