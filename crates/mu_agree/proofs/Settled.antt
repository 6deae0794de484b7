-- Regions whose entry at i is the chosen value for good.
use Rattle.std.proofs.Common.{◌≡◌, ℕ, ◌+◌, ◌%◌, ◌<◌, ◌≤◌, ◌⊎◌, inl, inr, Bool, true, false, cond, ◌&&◌, ◌==◌, List, ◌∷◌, refl, sym, ◌∙◌, ap, arith, Some, None, subst, eqb-true, true≢false, length}
use Rattle.std.specs.declared.option.Option.{Option}
use Rattle.std.specs.Prelude.{nat_lt}
use Rattle.std.specs.List.{slice_get}
use Rattle.std.proofs.lemmas.Bool.{and_parts, and_from, eqb-false, eq-eqb, or_cases, ltb-true, cases_lt}
use Rattle.mu_model.specs.declared.config.Config.{Config}
use Rattle.mu_model.specs.declared.event.Event.{Event}
use Rattle.mu_model.specs.declared.event.Verb.{Verb}
use Rattle.mu_model.specs.declared.event.Answer.{Answer}
use Rattle.mu_model.specs.Allowed.{Needs}
use Rattle.mu_model.specs.Answers.{drained, put_answer}
use Rattle.mu_model.specs.Histories.{all_below, earlier_or, has, max_with, part}
use Rattle.mu_model.specs.Knowledge.{fuo_read, greatest_fuo_read, is_filled, is_value, known}
use Rattle.mu_model.specs.Leaderships.{begins_leadership, is_first_ask, is_member, leadership, proposal_number}
use Rattle.mu_model.specs.Legal.{IsLegalHistory}
use Rattle.mu_model.specs.Placing.{is_known_put}
use Rattle.mu_model.specs.Regions.{region_fuo, region_log, region_min}
use Rattle.mu_agree.proofs.Legal.{event_after}
use Rattle.mu_agree.proofs.Numbers.{number-part, numbered, fresh_by}
use Rattle.mu_agree.proofs.Minimum.{min_lands}
use Rattle.mu_agree.proofs.Members.{slot_number}
use Rattle.mu_agree.proofs.Slots.{put_in', get_put}
use Rattle.mu_model.proofs.Scans.{all_at}
use Rattle.mu_agree.proofs.Landings.{no_gaps, greatest_since, has_implied}
use Rattle.mu_agree.proofs.Looks.{member_reached, own_number, number_back}
use Rattle.mu_agree.proofs.Offers.{at_part', of_one}
use Rattle.mu_agree.proofs.Early.{Protected, position_within, length_most}
use Rattle.mu_agree.proofs.Late.{Base}
use Rattle.mu_agree.proofs.Tame.{Tame, knowing, tame_put, tame_own, join_tame, other_tame}
use Rattle.mu_model.proofs.Basics.{same_some}
use Rattle.mu_model.proofs.Putting.{MayPutMin, MayPutSlot, put_facts, min_facts, raise_facts}

abbrev pub Shows : ℕ → ℕ → ℕ → List Event → Type 0
Shows i V p past = (y : ℕ × ℕ) → slice_get (region_log p past) i ≡ Some y → y.1 ≡ V

-- p shows the chosen value, and who may write p can put nothing else
pub record Settled (c : Config) (i V B : ℕ) (maj : ℕ → Bool) (p : ℕ) (past : List Event) : Type 0 where
  pub shows : Shows i V p past
  pub tame : (r : ℕ) → is_member r p (part r past) ≡ true → proposal_number r (part r past) ≡ Some (region_min p past) → Tame c i V B maj r (part r past) past

abbrev pub Know : Config → ℕ → ℕ → List Event → Type 0
Know c i V past = (r x : ℕ) → slice_get (known c r (part r past)) i ≡ Some x → x ≡ V

-- a minimum's number is its writer's
pub min_of : (c : Config) (by q b : ℕ) (past : List Event) → IsLegalHistory c past → MayPutMin by (part by past) q b → b % 8 ≡ by
min_of c by q b past h may = go (proposal_number by (part by past)) refl (own_number by by q b past may (eq-eqb by by refl))
  where
    go : (o : Option ℕ) → proposal_number by (part by past) ≡ o → earlier_or (Some b) o ≡ Some b → b % 8 ≡ by
    go None e k = (fresh_by by by q b past may (eq-eqb by by refl) (sym (number-part by past) ∙ e)).1
    go (Some x) e k = (numbered c by past h).own b (sym (number-part by past) ∙ e ∙ k)

shows_put : (c : Config) (i V B : ℕ) (maj : ℕ → Bool) (p by q j n w : ℕ) (past : List Event) → IsLegalHistory c past → Needs c by (part by past) (Verb.PutSlot q j n w) → Base c i V B maj past → Know c i V past → Settled c i V B maj p past
    → (a : Answer) → put_answer (drained by q past) ≡ a → (t : Bool) → (q == p) ≡ t → Shows i V p (record { by = by; verb = Verb.PutSlot q j n w; answer = a } ∷ past)
shows_put c i V B maj p by q j n w past h may s kn z Answer.Done e true hq = rw hq (λ y k. elim (get_put (region_log p past) j i (n, w) y k) [
  | inl m ↦ z.shows y m
  | inr m ↦ ap (λ x. x.1) m.1 ∙ put_is (sym m.0)
])
  where
    put_is : j ≡ i → w ≡ V
    put_is k =
        let at : MayPutSlot c by (part by past) p i n w = subst (λ x. MayPutSlot c by (part by past) p x n w) k (subst (λ x. MayPutSlot c by (part by past) x j n w) (eqb-true q p hq) (put_facts c by (part by past) q j n w may)) in
        let num : n ≡ region_min p past = slot_number c by q j n w past h may e ∙ ap (λ x. region_min x past) (eqb-true q p hq) in
        tame_put c i V B maj by p n w past h s (kn by) (z.tame by at.member (at.numbered ∙ ap Some num)) at
shows_put c i V B maj p by q j n w past h may s kn z Answer.Done e false hq = rw hq z.shows
shows_put c i V B maj p by q j n w past h may s kn z a e t hq = z.shows

tame_min : (c : Config) (i V B : ℕ) (maj : ℕ → Bool) (p by q b : ℕ) (past : List Event) → IsLegalHistory c past → Needs c by (part by past) (Verb.PutMin q b) → Base c i V B maj past → Know c i V past → Settled c i V B maj p past
    → (a : Answer) → put_answer (drained by q past) ≡ a → (y : Bool) → (q == p) ≡ y → (r : ℕ) → (by == r) ≡ true → (k : Bool) → is_member r q (part r past) ≡ k
    → is_member r p (record { by = by; verb = Verb.PutMin q b; answer = a } ∷ part r past) ≡ true → proposal_number r (record { by = by; verb = Verb.PutMin q b; answer = a } ∷ part r past) ≡ Some (region_min p (record { by = by; verb = Verb.PutMin q b; answer = a } ∷ past))
    → Tame c i V B maj r (record { by = by; verb = Verb.PutMin q b; answer = a } ∷ part r past) (record { by = by; verb = Verb.PutMin q b; answer = a } ∷ past)
tame_min c i V B maj p by q b past h may s kn z Answer.Done e true hq r hx false hk = λ m o. join_tame c i V B maj r by q b (part r past) past hx hk
tame_min c i V B maj p by q b past h may s kn z Answer.Done e true hq r hx true hk = rw (hx, hq) (λ m o.
    let member : is_member r p (part r past) ≡ true = subst (λ x. is_member r x (part r past) ≡ true) (eqb-true q p hq) hk in
    let t = member_reached c r p past h member in
    let num : proposal_number r (part r past) ≡ Some b = number_back b b (region_min p past) (proposal_number r (part r past)) t o in
    let low : region_min p past ≤ b = subst (λ x. region_min x past ≤ b) (eqb-true q p hq) (min_lands c by q b past h may e) in
    let same : t.b ≡ b = same_some t.b b (sym t.is ∙ num) in
    let up = t.below in
    let eq : b ≡ region_min p past = omega arith in
    subst (λ x. Tame c i V B maj r (record { by = by; verb = Verb.PutMin q b; answer = x } ∷ part r past) (record { by = by; verb = Verb.PutMin q b; answer = x } ∷ past)) e
    (tame_own c i V B maj r by (Verb.PutMin q b) past h may s (kn r) (z.tame r member (num ∙ ap Some eq)) hx))
tame_min c i V B maj p by q b past h may s kn z Answer.Done e false hq r hx k hk = rw (hx, hq) (λ m o.
    let t = member_reached c r p past h m in
    subst (λ x. Tame c i V B maj r (record { by = by; verb = Verb.PutMin q b; answer = x } ∷ part r past) (record { by = by; verb = Verb.PutMin q b; answer = x } ∷ past)) e
    (tame_own c i V B maj r by (Verb.PutMin q b) past h may s (kn r) (z.tame r m (number_back b (region_min p past) (region_min p past) (proposal_number r (part r past)) t o)) hx))
tame_min c i V B maj p by q b past h may s kn z a e y hq r hx k hk = rw hx (λ m o.
    let t = member_reached c r p past h m in
    subst (λ x. Tame c i V B maj r (record { by = by; verb = Verb.PutMin q b; answer = x } ∷ part r past) (record { by = by; verb = Verb.PutMin q b; answer = x } ∷ past)) e
    (tame_own c i V B maj r by (Verb.PutMin q b) past h may s (kn r) (z.tame r m (number_back b (region_min p past) (region_min p past) (proposal_number r (part r past)) t o)) hx))

abbrev TameAt : (c : Config) (i V B : ℕ) (maj : ℕ → Bool) → ℕ → ℕ → List Event → List Event → Type 0
TameAt c i V B maj r p now J = is_member r p J ≡ true → proposal_number r J ≡ Some (region_min p now) → Tame c i V B maj r J now

other_min : (c : Config) (i V B : ℕ) (maj : ℕ → Bool) (p by q b r : ℕ) (past : List Event) → IsLegalHistory c past → Needs c by (part by past) (Verb.PutMin q b) → Settled c i V B maj p past → (by == r) ≡ false
    → (a : Answer) → (y : Bool) → (q == p) ≡ y → TameAt c i V B maj r p (record { by = by; verb = Verb.PutMin q b; answer = a } ∷ past) (part r past)
other_min c i V B maj p by q b r past h may z hx Answer.Done true hq = rw hq (λ m o. absurd (eqb-false by r hx (sym (min_of c by q b past h (min_facts c by (part by past) q b may)) ∙ (numbered c r past h).own b (sym (number-part r past) ∙ o))))
other_min c i V B maj p by q b r past h may z hx Answer.Done false hq = rw hq (λ m o. other_tame c i V B maj r (record { by = by; verb = Verb.PutMin q b; answer = Answer.Done }) (part r past) past (z.tame r m o))
other_min c i V B maj p by q b r past h may z hx a y hq = λ m o. other_tame c i V B maj r (record { by = by; verb = Verb.PutMin q b; answer = a }) (part r past) past (z.tame r m o)

ask_settled : (c : Config) (i V B : ℕ) (maj : ℕ → Bool) (p by q r : ℕ) (past : List Event) → IsLegalHistory c past → Needs c by (part by past) (Verb.Ask q) → Base c i V B maj past → Know c i V past → Settled c i V B maj p past → (by == r) ≡ true → (t : Bool) → is_first_ask r by (Verb.Ask q) ≡ t
    → TameAt c i V B maj r p (event_after c past by (Verb.Ask q) ∷ past) (event_after c past by (Verb.Ask q) ∷ part r past)
ask_settled c i V B maj p by q r past h may s kn z hx true e = λ m o. absurd (gone m)
  where
    gone : is_member r p (event_after c past by (Verb.Ask q) ∷ part r past) ≡ true → ⊥
    gone = rw e (λ m. true≢false (sym m))
ask_settled c i V B maj p by q r past h may s kn z hx false e = λ m o. tame_own c i V B maj r by (Verb.Ask q) past h may s (kn r) (z.tame r (kept m) (kept_number o)) hx
  where
    kept : is_member r p (event_after c past by (Verb.Ask q) ∷ part r past) ≡ true → is_member r p (part r past) ≡ true
    kept = rw e (λ m. m)

    kept_number : proposal_number r (event_after c past by (Verb.Ask q) ∷ part r past) ≡ Some (region_min p past) → proposal_number r (part r past) ≡ Some (region_min p past)
    kept_number = rw e (λ m. m)

pub settled_step : (c : Config) (i V B : ℕ) (maj : ℕ → Bool) (p by : ℕ) (v : Verb) (past : List Event) → IsLegalHistory c past → Needs c by (part by past) v → Base c i V B maj past → Know c i V past → Settled c i V B maj p past → Settled c i V B maj p (event_after c past by v ∷ past)
settled_step c i V B maj p by (Verb.PutMin q b) past h may s kn z = record {
  shows = z.shows;
  tame = λ r. at_part' (TameAt c i V B maj r p (event_after c past by (Verb.PutMin q b) ∷ past)) r (event_after c past by (Verb.PutMin q b)) past
      (λ hx. other_min c i V B maj p by q b r past h may z hx (put_answer (drained by q past)) (q == p) refl)
      (λ hx. tame_min c i V B maj p by q b past h may s kn z (put_answer (drained by q past)) refl (q == p) refl r hx (is_member r q (part r past)) refl);
}
settled_step c i V B maj p by (Verb.PutSlot q j n w) past h may s kn z = record {
  shows = shows_put c i V B maj p by q j n w past h may s kn z (put_answer (drained by q past)) refl (q == p) refl;
  tame = λ r. at_part' (TameAt c i V B maj r p (event_after c past by (Verb.PutSlot q j n w) ∷ past)) r (event_after c past by (Verb.PutSlot q j n w)) past
      (λ hx m o. other_tame c i V B maj r (event_after c past by (Verb.PutSlot q j n w)) (part r past) past (z.tame r m o))
      (λ hx m o. tame_own c i V B maj r by (Verb.PutSlot q j n w) past h may s (kn r) (z.tame r m o) hx);
}
settled_step c i V B maj p by (Verb.Ask q) past h may s kn z = record {
  shows = z.shows;
  tame = λ r. at_part' (TameAt c i V B maj r p (event_after c past by (Verb.Ask q) ∷ past)) r (event_after c past by (Verb.Ask q)) past
      (λ hx m o. other_tame c i V B maj r (event_after c past by (Verb.Ask q)) (part r past) past (z.tame r m o))
      (λ hx. ask_settled c i V B maj p by q r past h may s kn z hx (is_first_ask r by (Verb.Ask q)) refl);
}
settled_step c i V B maj p by v past h may s kn z = record {
  shows = z.shows;
  tame = λ r. at_part' (TameAt c i V B maj r p (event_after c past by v ∷ past)) r (event_after c past by v) past
      (λ hx m o. other_tame c i V B maj r (event_after c past by v) (part r past) past (z.tame r m o))
      (λ hx m o. tame_own c i V B maj r by v past h may s (kn r) (z.tame r m o) hx);
}

-- r put the chosen value at p in the leadership
abbrev pub puts_it : ℕ → ℕ → ℕ → ℕ → ℕ → Verb → Answer → Bool
puts_it i V r p by (Verb.PutSlot q j n w) Answer.Done = (by == r) && ((q == p) && ((j == i) && (w == V)))
puts_it i V r p by _ _ = false

abbrev pub has_put_it : ℕ → ℕ → ℕ → ℕ → List Event → Bool
has_put_it i V r p J = has (λ e. puts_it i V r p e.by e.verb e.answer) (leadership r J)

abbrev pub Copied : ℕ → ℕ → ℕ → ℕ → List Event → List Event → Type 0
Copied i V r p past J = has_put_it i V r p J ≡ true → proposal_number r J ≡ Some (region_min p past) → Shows i V p past

known_put_it : (i V : ℕ) (values : List ℕ) → ((x : ℕ) → slice_get values i ≡ Some x → x ≡ V) → (r p by : ℕ) (v : Verb) (a : Answer) → is_known_put values r p i by v a ≡ true → puts_it i V r p by v a ≡ true
known_put_it i V values f r p by (Verb.PutSlot q j n w) Answer.Done m =
    let x = and_parts (by == r) ((q == p) && ((j == i) && is_value (slice_get values i) w)) m in
    let y = and_parts (q == p) ((j == i) && is_value (slice_get values i) w) x.1 in
    let z = and_parts (j == i) (is_value (slice_get values i) w) y.1 in
    and_from (by == r) ((q == p) && ((j == i) && (w == V))) x.0 (and_from (q == p) ((j == i) && (w == V)) y.0 (and_from (j == i) (w == V) z.0 (eq-eqb w V (value (slice_get values i) refl z.1))))
  where
    value : (o : Option ℕ) → slice_get values i ≡ o → is_value o w ≡ true → w ≡ V
    value None e k = absurd (true≢false (sym k))
    value (Some x) e k = sym (eqb-true x w k) ∙ f x e
known_put_it i V values f r p by v a m = absurd (true≢false (sym m))

-- all that holds after the choice
pub record Late (c : Config) (i V B : ℕ) (maj : ℕ → Bool) (past : List Event) : Type 0 where
  pub base : Base c i V B maj past
  pub knows : Know c i V past
  pub settled : (p : ℕ) → Protected p i past → Settled c i V B maj p past
  pub filled : (r p : ℕ) → is_filled c r p (part r past) i ≡ true → Settled c i V B maj p past
  pub copied : (r p : ℕ) → Copied i V r p past (part r past)

-- a put at the next position lands only if i shows the chosen value
next_settled : (c : Config) (i V B : ℕ) (maj : ℕ → Bool) (p by j n w : ℕ) (past : List Event) → IsLegalHistory c past → Needs c by (part by past) (Verb.PutSlot p j n w) → put_answer (drained by p past) ≡ Answer.Done → Late c i V B maj past → i < j → Settled c i V B maj p past
next_settled c i V B maj p by j n w past h may e s l =
    elim (or_cases (nat_lt i (greatest_fuo_read by p (leadership by (part by past)))) (has (λ e. is_known_put (known c by (part by past)) by p i e.by e.verb e.answer) (leadership by (part by past))) ((put_facts c by (part by past) p j n w may).caught_up i l)) [
      | inl k ↦ (let x = ltb-true i (greatest_fuo_read by p (leadership by (part by past))) k in
          let y = greatest_since (λ e. fuo_read by p e.by e.verb e.answer) (begins_leadership by) (part by past) in
          let z = (no_gaps c p past h).read by in s.settled p (inl (omega arith)))
      | inr k ↦ record {
        shows = s.copied by p (has_implied (λ e. is_known_put (known c by (part by past)) by p i e.by e.verb e.answer) (λ e. puts_it i V by p e.by e.verb e.answer) (λ e m. known_put_it i V (known c by (part by past)) (s.knows by) by p e.by e.verb e.answer m) (leadership by (part by past)) k) ((put_facts c by (part by past) p j n w may).numbered ∙ ap Some num);
        tame = λ r m o. knowing (subst (λ x. i < length (known c x (part x past))) (of_one c r by n past h (sym (number-part r past) ∙ o ∙ ap Some (sym num)) (sym (number-part by past) ∙ (put_facts c by (part by past) p j n w may).numbered)) within);
      }
    ]
  where
    num : n ≡ region_min p past
    num = slot_number c by p j n w past h may e

    within : i < length (known c by (part by past))
    within = let k = position_within c by p j n w (part by past) (put_facts c by (part by past) p j n w may) in omega arith

settled_raise : (c : Config) (i V B : ℕ) (maj : ℕ → Bool) (p by q u : ℕ) (past : List Event) → Needs c by (part by past) (Verb.RaiseFuo q u) → Late c i V B maj past → (t : Bool) → (q == p) ≡ t
    → (i < max_with (cond t (Some u) None) (region_fuo p past)) ⊎ (i + 1 < length (region_log p past)) → Settled c i V B maj p past
settled_raise c i V B maj p by q u past may s t hq (inr k) = s.settled p (inr k)
settled_raise c i V B maj p by q u past may s false hq (inl k) = s.settled p (inl k)
settled_raise c i V B maj p by q u past may s true hq (inl k) =
    elim (cases_lt i (region_fuo p past)) [
      | inl l ↦ s.settled p (inl l)
      | inr l ↦ s.filled by p (all_at u (is_filled c by p (part by past)) (subst (λ x. all_below u (is_filled c by x (part by past)) ≡ true) (eqb-true q p hq) (raise_facts c by (part by past) q u may)) i (omega arith))
    ]

settled_slot : (c : Config) (i V B : ℕ) (maj : ℕ → Bool) (p by q j n w : ℕ) (past : List Event) → IsLegalHistory c past → Needs c by (part by past) (Verb.PutSlot q j n w) → Late c i V B maj past
    → (a : Answer) → put_answer (drained by q past) ≡ a → (t : Bool) → (q == p) ≡ t → Protected p i (record { by = by; verb = Verb.PutSlot q j n w; answer = a } ∷ past) → Settled c i V B maj p past
settled_slot c i V B maj p by q j n w past h may s Answer.Done e true hq (inl k) = s.settled p (inl k)
settled_slot c i V B maj p by q j n w past h may s Answer.Done e true hq (inr k) = go (rw hq at k)
  where
    go : i + 1 < length (put_in' (region_log p past) j (n, w)) → Settled c i V B maj p past
    go k = elim (cases_lt (i + 1) (length (region_log p past))) [
      | inl l ↦ s.settled p (inr l)
      | inr l ↦ (let m = length_most (region_log p past) j (n, w) in
          next_settled c i V B maj p by j n w past h (subst (λ x. Needs c by (part by past) (Verb.PutSlot x j n w)) (eqb-true q p hq) may) (subst (λ x. put_answer (drained by x past) ≡ Answer.Done) (eqb-true q p hq) e) s (omega arith))
    ]
settled_slot c i V B maj p by q j n w past h may s Answer.Done e false hq k = s.settled p (rw hq at k)
settled_slot c i V B maj p by q j n w past h may s a e t hq k = s.settled p k

pub settled_kept : (c : Config) (i V B : ℕ) (maj : ℕ → Bool) (p by : ℕ) (v : Verb) (past : List Event) → IsLegalHistory c past → Needs c by (part by past) v → Late c i V B maj past → Protected p i (event_after c past by v ∷ past) → Settled c i V B maj p past
settled_kept c i V B maj p by (Verb.RaiseFuo q u) past h may s k = settled_raise c i V B maj p by q u past may s (q == p) refl k
settled_kept c i V B maj p by (Verb.PutSlot q j n w) past h may s k = settled_slot c i V B maj p by q j n w past h may s (put_answer (drained by q past)) refl (q == p) refl k
settled_kept c i V B maj p by v past h may s k = s.settled p k
