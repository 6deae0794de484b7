-- The chosen value that a leader put stays while it owns the region.
use Rattle.std.proofs.Common.{◌≡◌, ℕ, ◌≤◌, inl, inr, Bool, true, false, cond, ◌&&◌, ◌==◌, List, ◌∷◌, refl, sym, ◌∙◌, ap, arith, Some, subst, eqb-true, true≢false, length}
use Rattle.std.specs.List.{slice_get}
use Rattle.std.proofs.lemmas.Bool.{and_parts, and_from, eqb-false}
use Rattle.mu_model.specs.declared.config.Config.{Config}
use Rattle.mu_model.specs.declared.event.Event.{Event}
use Rattle.mu_model.specs.declared.event.Verb.{Verb}
use Rattle.mu_model.specs.declared.event.Answer.{Answer}
use Rattle.mu_model.specs.Allowed.{Needs}
use Rattle.mu_model.specs.Answers.{drained, put_answer}
use Rattle.mu_model.specs.Histories.{has, part}
use Rattle.mu_model.specs.Leaderships.{is_first_ask, leadership, proposal_number}
use Rattle.mu_model.specs.Legal.{IsLegalHistory}
use Rattle.mu_model.specs.Regions.{region_log, region_min}
use Rattle.mu_agree.proofs.Legal.{event_after}
use Rattle.mu_agree.proofs.Numbers.{number-part, numbered}
use Rattle.mu_agree.proofs.Minimum.{min_lands}
use Rattle.mu_agree.proofs.Members.{slot_number}
use Rattle.mu_agree.proofs.Slots.{put_in', get_put}
use Rattle.mu_agree.proofs.Landings.{has_cases, has_implied}
use Rattle.mu_agree.proofs.Landed.{lands_within, get_put_same}
use Rattle.mu_agree.proofs.Looks.{member_reached, Reached, number_back}
use Rattle.mu_agree.proofs.Offers.{at_part', of_one}
use Rattle.mu_agree.proofs.Early.{PutValue, copies_known, repeats_offer, offers_first, put_value}
use Rattle.mu_agree.proofs.Settled.{Late, Copied, puts_it, has_put_it, min_of}
use Rattle.mu_agree.proofs.Agreement.{value_at, put_first, firsts, slot_at, puts_at_members}
use Rattle.mu_model.proofs.Basics.{same_some}
use Rattle.mu_model.proofs.Putting.{MayPutSlot, put_facts, min_facts}

it_is_value : (i V r p by : ℕ) (v : Verb) (a : Answer) → puts_it i V r p by v a ≡ true → value_at r i V by v ≡ true
it_is_value i V r p by (Verb.PutSlot q j n w) Answer.Done m =
    let x = and_parts (by == r) ((q == p) && ((j == i) && (w == V))) m in
    and_from (by == r) ((j == i) && (w == V)) x.0 (and_parts (q == p) ((j == i) && (w == V)) x.1).1
it_is_value i V r p by v a m = absurd (true≢false (sym m))

pub it_is_at : (i V r p by : ℕ) (v : Verb) (a : Answer) → puts_it i V r p by v a ≡ true → slot_at r p by v ≡ true
it_is_at i V r p by (Verb.PutSlot q j n w) Answer.Done m =
    let x = and_parts (by == r) ((q == p) && ((j == i) && (w == V))) m in
    and_from (by == r) (q == p) x.0 (and_parts (q == p) ((j == i) && (w == V)) x.1).0
it_is_at i V r p by v a m = absurd (true≢false (sym m))

-- a leader that put V at i in its leadership puts nothing else there
only_it : (c : Config) (i V B : ℕ) (maj : ℕ → Bool) (r p q n w : ℕ) (past : List Event) → IsLegalHistory c past → Late c i V B maj past → has_put_it i V r p (part r past) ≡ true → MayPutSlot c r (part r past) q i n w → w ≡ V
only_it c i V B maj r p q n w past h s m may = go (put_value c r q i n w past h may)
  where
    values : has (λ e. value_at r i V e.by e.verb) (leadership r (part r past)) ≡ true
    values = has_implied (λ e. puts_it i V r p e.by e.verb e.answer) (λ e. value_at r i V e.by e.verb) (λ e k. it_is_value i V r p e.by e.verb e.answer k) (leadership r (part r past)) m

    go : PutValue c r i n w past → w ≡ V
    go (copies_known k) = s.knows r w k
    go (repeats_offer o f nx jn) = elim (firsts c r i V past h w f values) [ inl e ↦ e | inr l ↦ absurd (omega arith) ]
    go (offers_first o f nx fd g) = absurd (put_first r i V (leadership r (part r past)) values f)

copied_put : (c : Config) (i V B : ℕ) (maj : ℕ → Bool) (r p by q j n w : ℕ) (past : List Event) → IsLegalHistory c past → Needs c by (part by past) (Verb.PutSlot q j n w) → Late c i V B maj past
    → (a : Answer) → put_answer (drained by q past) ≡ a → (t : Bool) → (q == p) ≡ t → (u : Bool) → (j == i) ≡ u
    → Copied i V r p (record { by = by; verb = Verb.PutSlot q j n w; answer = a } ∷ past) (part r (record { by = by; verb = Verb.PutSlot q j n w; answer = a } ∷ past))
copied_put c i V B maj r p by q j n w past h may s a e t hq u hj = at_part' (Copied i V r p (record { by = by; verb = Verb.PutSlot q j n w; answer = a } ∷ past)) r (record { by = by; verb = Verb.PutSlot q j n w; answer = a }) past (λ hx. other a t u e hq hj hx) (λ hx. own a t u e hq hj hx)
  where
    other : (a : Answer) (t u : Bool) → put_answer (drained by q past) ≡ a → (q == p) ≡ t → (j == i) ≡ u → (by == r) ≡ false → Copied i V r p (record { by = by; verb = Verb.PutSlot q j n w; answer = a } ∷ past) (part r past)
    other Answer.Done true u e hq hj hx = λ m o. absurd (eqb-false by r hx (of_one c r by n past h (sym (number-part r past) ∙ o ∙ ap Some (sym (slot_number c by q j n w past h may e ∙ ap (λ z. region_min z past) (eqb-true q p hq)))) (sym (number-part by past) ∙ (put_facts c by (part by past) q j n w may).numbered)))
    other Answer.Done false u e hq hj hx = rw hq (s.copied r p)
    other a t u e hq hj hx = s.copied r p

    own : (a : Answer) (t u : Bool) → put_answer (drained by q past) ≡ a → (q == p) ≡ t → (j == i) ≡ u → (by == r) ≡ true → Copied i V r p (record { by = by; verb = Verb.PutSlot q j n w; answer = a } ∷ past) (record { by = by; verb = Verb.PutSlot q j n w; answer = a } ∷ part r past)
    own Answer.Done true true e hq hj hx = rw (hx, hq, hj) (λ m o y k. at m y k)
      where
        may_r : Needs c r (part r past) (Verb.PutSlot q j n w)
        may_r = subst (λ z. Needs c z (part z past) (Verb.PutSlot q j n w)) (eqb-true by r hx) may

        room : j ≤ length (region_log p past)
        room = subst (λ x. j ≤ length (region_log x past)) (eqb-true q p hq) (lands_within c q by j n w past h may)

        value : cond (w == V) true (has_put_it i V r p (part r past)) ≡ true → w ≡ V
        value m = elim (has_cases (w == V) (has_put_it i V r p (part r past)) m) [
          | inl k ↦ eqb-true w V k
          | inr k ↦ only_it c i V B maj r p q n w past h s k (subst (λ z. MayPutSlot c r (part r past) q z n w) (eqb-true j i hj) (put_facts c r (part r past) q j n w may_r))
        ]

        at : cond (w == V) true (has_put_it i V r p (part r past)) ≡ true → (y : ℕ × ℕ) → slice_get (put_in' (region_log p past) j (n, w)) i ≡ Some y → y.1 ≡ V
        at m y k =
            let z : (n, w) ≡ y = same_some (n, w) y (sym (get_put_same (region_log p past) j (n, w) room) ∙ ap (slice_get (put_in' (region_log p past) j (n, w))) (eqb-true j i hj) ∙ k) in
            ap (λ x. x.1) (sym z) ∙ value m
    own Answer.Done true false e hq hj hx = rw (hx, hq, hj) (λ m o y k. elim (get_put (region_log p past) j i (n, w) y k) [ inl l ↦ s.copied r p m o y l | inr l ↦ absurd (eqb-false j i hj (sym l.0)) ])
    own Answer.Done false u e hq hj hx = rw (hx, hq) (s.copied r p)
    own a t u e hq hj hx = s.copied r p

copied_ask : (c : Config) (i V r p by q : ℕ) (past J : List Event) → Copied i V r p past J → (t : Bool) → is_first_ask r by (Verb.Ask q) ≡ t → Copied i V r p past (event_after c past by (Verb.Ask q) ∷ J)
copied_ask c i V r p by q past J s true h = rw h (λ m. absurd (true≢false (sym m)))
copied_ask c i V r p by q past J s false h = rw h s

copied_min : (c : Config) (i V B : ℕ) (maj : ℕ → Bool) (r p by q b : ℕ) (past : List Event) → IsLegalHistory c past → Needs c by (part by past) (Verb.PutMin q b) → Late c i V B maj past
    → (a : Answer) → put_answer (drained by q past) ≡ a → (t : Bool) → (q == p) ≡ t
    → Copied i V r p (record { by = by; verb = Verb.PutMin q b; answer = a } ∷ past) (part r (record { by = by; verb = Verb.PutMin q b; answer = a } ∷ past))
copied_min c i V B maj r p by q b past h may s a e t hq = at_part' (Copied i V r p (record { by = by; verb = Verb.PutMin q b; answer = a } ∷ past)) r (record { by = by; verb = Verb.PutMin q b; answer = a }) past (λ hx. other a t e hq hx) (λ hx. own a t e hq hx)
  where
    member : has_put_it i V r p (part r past) ≡ true → Reached (proposal_number r (part r past)) (region_min p past)
    member m = member_reached c r p past h (puts_at_members c r p past h (has_implied (λ e. puts_it i V r p e.by e.verb e.answer) (λ e. slot_at r p e.by e.verb) (λ e k. it_is_at i V r p e.by e.verb e.answer k) (leadership r (part r past)) m))

    other : (a : Answer) (t : Bool) → put_answer (drained by q past) ≡ a → (q == p) ≡ t → (by == r) ≡ false → Copied i V r p (record { by = by; verb = Verb.PutMin q b; answer = a } ∷ past) (part r past)
    other Answer.Done true e hq hx = rw hq (λ m o. absurd (eqb-false by r hx (sym (min_of c by q b past h (min_facts c by (part by past) q b may)) ∙ (numbered c r past h).own b (sym (number-part r past) ∙ o))))
    other Answer.Done false e hq hx = rw hq (s.copied r p)
    other a t e hq hx = s.copied r p

    own : (a : Answer) (t : Bool) → put_answer (drained by q past) ≡ a → (q == p) ≡ t → (by == r) ≡ true → Copied i V r p (record { by = by; verb = Verb.PutMin q b; answer = a } ∷ past) (record { by = by; verb = Verb.PutMin q b; answer = a } ∷ part r past)
    own Answer.Done true e hq hx = rw (hx, hq) (λ m o.
        let k = member m in
        let num : proposal_number r (part r past) ≡ Some b = number_back b b (region_min p past) (proposal_number r (part r past)) k o in
        let low : region_min p past ≤ b = subst (λ x. region_min x past ≤ b) (eqb-true q p hq) (min_lands c by q b past h may e) in
        let same : k.b ≡ b = same_some k.b b (sym k.is ∙ num) in
        let up = k.below in
        let eq : b ≡ region_min p past = omega arith in s.copied r p m (num ∙ ap Some eq))
    own Answer.Done false e hq hx = rw (hx, hq) (λ m o. s.copied r p m (number_back b (region_min p past) (region_min p past) (proposal_number r (part r past)) (member m) o))
    own a t e hq hx = rw hx (λ m o. s.copied r p m (number_back b (region_min p past) (region_min p past) (proposal_number r (part r past)) (member m) o))

pub copied_step : (c : Config) (i V B : ℕ) (maj : ℕ → Bool) (r p by : ℕ) (v : Verb) (past : List Event) → IsLegalHistory c past → Needs c by (part by past) v → Late c i V B maj past → Copied i V r p (event_after c past by v ∷ past) (part r (event_after c past by v ∷ past))
copied_step c i V B maj r p by (Verb.Ask q) past h may s = at_part' (Copied i V r p past) r (event_after c past by (Verb.Ask q)) past (λ _. s.copied r p) (λ _. copied_ask c i V r p by q past (part r past) (s.copied r p) (is_first_ask r by (Verb.Ask q)) refl)
copied_step c i V B maj r p by (Verb.PutMin q b) past h may s = copied_min c i V B maj r p by q b past h may s (put_answer (drained by q past)) refl (q == p) refl
copied_step c i V B maj r p by (Verb.PutSlot q j n w) past h may s = copied_put c i V B maj r p by q j n w past h may s (put_answer (drained by q past)) refl (q == p) refl (j == i) refl
copied_step c i V B maj r p by v past h may s = at_part' (Copied i V r p past) r (event_after c past by v) past (λ _. s.copied r p) (λ _. s.copied r p)
