-- What a leader may raise rests on regions that are settled.
use Rattle.std.proofs.Common.{◌≡◌, ℕ, ◌+◌, ◌<◌, ◌≤◌, ◌⊎◌, inl, inr, Bool, true, false, ◌&&◌, ◌||◌, ◌==◌, List, ◌∷◌, refl, sym, ◌∙◌, ap, arith, Some, None, subst, eqb-true, true≢false, length}
use Rattle.std.specs.declared.option.Option.{Option}
use Rattle.std.specs.Prelude.{nat_lt}
use Rattle.std.specs.List.{slice_get}
use Rattle.std.proofs.lemmas.Option.{slice_get_within}
use Rattle.std.proofs.lemmas.Bool.{and_parts, eqb-false, eq-eqb, or_cases, ltb-true, cases_eq}
use Rattle.mu_model.specs.declared.config.Config.{Config}
use Rattle.mu_model.specs.declared.event.Event.{Event}
use Rattle.mu_model.specs.declared.event.Verb.{Verb}
use Rattle.mu_model.specs.declared.event.Answer.{Answer}
use Rattle.mu_model.specs.Allowed.{Allowed, Needs}
use Rattle.mu_model.specs.Answers.{drained, put_answer}
use Rattle.mu_model.specs.Histories.{has, part}
use Rattle.mu_model.specs.Knowledge.{grown, is_accepted_by_all, is_filled, is_known_decided, is_value, known, lands_entry, learnt_by}
use Rattle.mu_model.specs.Leaderships.{begins_leadership, is_member, leadership, proposal_number}
use Rattle.mu_model.specs.Legal.{IsLegalHistory}
use Rattle.mu_model.specs.Regions.{region_fuo, region_log, region_min}
use Rattle.mu_agree.proofs.Legal.{event_after}
use Rattle.mu_agree.proofs.Numbers.{number-part}
use Rattle.mu_agree.proofs.Members.{slot_number}
use Rattle.mu_agree.proofs.Slots.{put_in'}
use Rattle.mu_agree.proofs.Knowing.{Teaches, teaches, by_put, by_look}
use Rattle.mu_agree.proofs.Landings.{look_reply, has_since, has_implied}
use Rattle.mu_agree.proofs.Landed.{has_landed, slot_landed, landed_facts, lands_within, get_put_same}
use Rattle.mu_agree.proofs.Offers.{first_offered, at_part', of_one}
use Rattle.mu_agree.proofs.Choice.{Chosen, not_chosen}
use Rattle.mu_agree.proofs.Early.{Protected, accepted_chosen, done_lands, landed_of, trusted_is_protected, PutValue, copies_known, repeats_offer, offers_first, put_value, past_end, offered_now}
use Rattle.mu_agree.proofs.Late.{Base, chosen_is, base_step}
use Rattle.mu_agree.proofs.Tame.{Tame, knowing, under, known_longer}
use Rattle.mu_agree.proofs.Settled.{Late, Settled, Know, Shows, settled_kept, settled_step}
use Rattle.mu_agree.proofs.Agreement.{knows_kept}
use Rattle.mu_agree.proofs.Copies.{copied_step}
use Rattle.mu_model.proofs.Basics.{same_some}
use Rattle.mu_model.proofs.Putting.{MayPutSlot, put_facts}

abbrev put : ℕ → ℕ → ℕ → ℕ → ℕ → Event
put by q j n w = record { by = by; verb = Verb.PutSlot q j n w; answer = Answer.Done }

-- a put that landed and after which its writer knows i settles a region
put_settles : (c : Config) (i V B : ℕ) (maj : ℕ → Bool) (p by q j n w : ℕ) (past : List Event) → IsLegalHistory c past → Needs c by (part by past) (Verb.PutSlot q j n w)
    → n ≤ region_min p past → (n < region_min p past → (first_offered i n (put by q j n w ∷ past) ≡ Some V) × Chosen c i n V (put by q j n w ∷ past))
    → i < length (known c by (put by q j n w ∷ part by past)) → Shows i V p (put by q j n w ∷ past) → Settled c i V B maj p (put by q j n w ∷ past)
put_settles c i V B maj p by q j n w past h may low lower after sh = record { shows = sh; tame = λ r. at_part' (λ J. is_member r p J ≡ true → proposal_number r J ≡ Some (region_min p past) → Tame c i V B maj r J (put by q j n w ∷ past)) r (put by q j n w) past (λ hx m o. other r hx o) (λ hx m o. knowing (subst (λ z. i < length (known c z (put by q j n w ∷ part z past))) (eqb-true by r hx) after)) }
  where
    other : (r : ℕ) → (by == r) ≡ false → proposal_number r (part r past) ≡ Some (region_min p past) → Tame c i V B maj r (part r past) (record { by = by; verb = Verb.PutSlot q j n w; answer = Answer.Done } ∷ past)
    other r hx o = elim (cases_eq n (region_min p past)) [
      | inl e ↦ absurd (eqb-false by r hx (of_one c r by n past h (sym (number-part r past) ∙ o ∙ ap Some (sym e)) (sym (number-part by past) ∙ (put_facts c by (part by past) q j n w may).numbered)))
      | inr d ↦ (let l : n < region_min p past = omega arith in let k = lower l in under (record { b = n; m = region_min p past; num = o; less = l; mine = k.0; chosen = k.1 }))
    ]

-- the put copied the known value
here_settles : (c : Config) (i V B : ℕ) (maj : ℕ → Bool) (p by q j n w : ℕ) (past : List Event) → IsLegalHistory c past → Needs c by (part by past) (Verb.PutSlot q j n w) → put_answer (drained by q past) ≡ Answer.Done
    → ((x : ℕ) → slice_get (known c by (part by past)) i ≡ Some x → x ≡ V) → (q == p) ≡ true → (j == i) ≡ true → slice_get (known c by (part by past)) i ≡ Some w → Settled c i V B maj p (put by q j n w ∷ past)
here_settles c i V B maj p by q j n w past h may ans kn hq hj k = put_settles c i V B maj p by q j n w past h may (let nm = num in omega arith) (λ l. absurd (let nm = num in omega arith))
    (let l = slice_get_within (known c by (part by past)) i w k in let m = known_longer c by (put by q j n w) (part by past) in omega arith)
    (rw hq (λ y m. (let z : (n, w) ≡ y = same_some (n, w) y (sym (get_put_same (region_log p past) j (n, w) room) ∙ ap (slice_get (put_in' (region_log p past) j (n, w))) (eqb-true j i hj) ∙ m) in ap (λ x. x.1) (sym z) ∙ kn w k)))
  where
    num : n ≡ region_min p past
    num = slot_number c by q j n w past h may ans ∙ ap (λ x. region_min x past) (eqb-true q p hq)

    room : j ≤ length (region_log p past)
    room = subst (λ x. j ≤ length (region_log x past)) (eqb-true q p hq) (lands_within c q by j n w past h may)

accepted_of : (c : Config) (r i x by : ℕ) (J now : List Event) (v : Verb) (a : Answer) → Teaches c r J now i x by v a → (q j n w : ℕ) → Verb.PutSlot q j n w ≡ v → (j ≡ i) × (w ≡ x) × (is_accepted_by_all c r now i n w ≡ true)
accepted_of c r i x by J now v a (by_put {p = p} {b = b} o acc) q j n w e =
    let en : b ≡ n = cc in let ew : x ≡ w = cc in (cc, cc, subst (λ z. is_accepted_by_all c r now i z w ≡ true) en (subst (λ z. is_accepted_by_all c r now i b z ≡ true) ew acc))
accepted_of c r i x by J now v a (by_look o tr) q j n w e = cc

-- the put made i known
there_settles : (c : Config) (i V B : ℕ) (maj : ℕ → Bool) (p by q j n w : ℕ) (past : List Event) → IsLegalHistory c past → Allowed c by (part by past) (Verb.PutSlot q j n w) → put_answer (drained by q past) ≡ Answer.Done
    → Base c i V B maj (put by q j n w ∷ past) → length (known c by (part by past)) ≡ i → length (known c by (put by q j n w ∷ part by past)) ≡ i + 1
    → has (lands_entry by p i n w) (leadership by (put by q j n w ∷ part by past)) ≡ true → Settled c i V B maj p (put by q j n w ∷ past)
there_settles c i V B maj p by q j n w past h al ans base' len len' hp = go (learnt_by c by (part by past) (length (known c by (part by past))) by (Verb.PutSlot q j n w) Answer.Done (put by q j n w ∷ part by past)) refl len'
  where
    legal : IsLegalHistory c (record { by = by; verb = Verb.PutSlot q j n w; answer = Answer.Done } ∷ past)
    legal = (h, record { allowed = al; answer = sym ans })

    lands : has_landed p i n w (record { by = by; verb = Verb.PutSlot q j n w; answer = Answer.Done } ∷ past) ≡ true
    lands = landed_of by p i n w (record { by = by; verb = Verb.PutSlot q j n w; answer = Answer.Done }) past
        (has_implied (lands_entry by p i n w) (λ f. slot_landed p i n w f.verb f.answer) (λ f m. done_lands by p i n w f.by f.verb f.answer m) (record { by = by; verb = Verb.PutSlot q j n w; answer = Answer.Done } ∷ part by past)
        (has_since (lands_entry by p i n w) (begins_leadership by) (record { by = by; verb = Verb.PutSlot q j n w; answer = Answer.Done } ∷ part by past) hp))

    offer : MayPutSlot c by (part by past) q i n w → (first_offered i n past ≡ Some w) ⊎ (first_offered i n past ≡ None)
    offer may = from (put_value c by q i n w past h may)
      where
        from : PutValue c by i n w past → (first_offered i n past ≡ Some w) ⊎ (first_offered i n past ≡ None)
        from (copies_known k) = absurd (past_end (known c by (part by past)) i w (omega arith) k)
        from (repeats_offer o f nx jn) = inl o
        from (offers_first o f nx fd g) = inr o

    finish : j ≡ i → is_accepted_by_all c by (record { by = by; verb = Verb.PutSlot q j n w; answer = Answer.Done } ∷ part by past) i n w ≡ true → Settled c i V B maj p (record { by = by; verb = Verb.PutSlot q j n w; answer = Answer.Done } ∷ past)
    finish ej acc = put_settles c i V B maj p by q j n w past h al.may ((landed_facts c p (put by q j n w ∷ past) legal).least i n w lands) (λ l. (mine, ch)) (omega arith) sh
      where
        ch' : Chosen c i n w (record { by = by; verb = Verb.PutSlot q j n w; answer = Answer.Done } ∷ past)
        ch' = accepted_chosen c by i n w (record { by = by; verb = Verb.PutSlot q j n w; answer = Answer.Done }) past acc

        is : w ≡ V
        is = chosen_is c i V B maj (record { by = by; verb = Verb.PutSlot q j n w; answer = Answer.Done } ∷ past) base' n w ch'

        ch : Chosen c i n V (record { by = by; verb = Verb.PutSlot q j n w; answer = Answer.Done } ∷ past)
        ch = subst (λ z. Chosen c i n z (record { by = by; verb = Verb.PutSlot q j n w; answer = Answer.Done } ∷ past)) is ch'

        mine : first_offered i n (record { by = by; verb = Verb.PutSlot q j n w; answer = Answer.Done } ∷ past) ≡ Some V
        mine =
            let e1 : (j == i) ≡ true = eq-eqb j i ej in
            let e2 : (n == n) ≡ true = eq-eqb n n refl in
            rw (e1, e2) (offered_now w (first_offered i n past) (offer (subst (λ z. MayPutSlot c by (part by past) q z n w) ej (put_facts c by (part by past) q j n w al.may))) ∙ ap Some is)

        sh : Shows i V p (record { by = by; verb = Verb.PutSlot q j n w; answer = Answer.Done } ∷ past)
        sh y k = elim (cases_eq y.1 V) [
          | inl e ↦ e
          | inr d ↦ absurd (wrong d)
        ]
          where
            facts : has_landed p i y.0 y.1 (record { by = by; verb = Verb.PutSlot q j n w; answer = Answer.Done } ∷ past) ≡ true
            facts = (landed_facts c p (record { by = by; verb = Verb.PutSlot q j n w; answer = Answer.Done } ∷ past) legal).in_log i y.0 y.1 k

            above : n ≤ y.0
            above = (landed_facts c p (record { by = by; verb = Verb.PutSlot q j n w; answer = Answer.Done } ∷ past) legal).most i n w y lands k

            wrong : (y.1 ≡ V → ⊥) → ⊥
            wrong d = let o = base'.own p y.0 y.1 facts d in let ab = above in elim (cases_eq n y.0) [
              | inl e ↦ d (same_some y.1 V (sym o ∙ ap (λ z. first_offered i z (record { by = by; verb = Verb.PutSlot q j n w; answer = Answer.Done } ∷ past)) (sym e) ∙ mine))
              | inr ne ↦ not_chosen c i n V (record { by = by; verb = Verb.PutSlot q j n w; answer = Answer.Done } ∷ past) (λ p' m. mine) (base'.safe_offers y.0 y.1 n V o d (omega arith) d) ch
            ]

    go : (o : Option ℕ) → learnt_by c by (part by past) (length (known c by (part by past))) by (Verb.PutSlot q j n w) Answer.Done (record { by = by; verb = Verb.PutSlot q j n w; answer = Answer.Done } ∷ part by past) ≡ o
        → length (grown (known c by (part by past)) o) ≡ i + 1 → Settled c i V B maj p (record { by = by; verb = Verb.PutSlot q j n w; answer = Answer.Done } ∷ past)
    go None e l = absurd (omega arith)
    go (Some x) e l =
        let t = teaches c by (length (known c by (part by past))) x by (Verb.PutSlot q j n w) Answer.Done (part by past) (put by q j n w ∷ part by past) e in
        let k = accepted_of c by i x by (part by past) (put by q j n w ∷ part by past) (Verb.PutSlot q j n w) Answer.Done (subst (λ z. Teaches c by (part by past) (put by q j n w ∷ part by past) z x by (Verb.PutSlot q j n w) Answer.Done) len t) q j n w refl in
        finish k.0 k.2

filled_fuo : (c : Config) (i V B : ℕ) (maj : ℕ → Bool) (r p by q : ℕ) (past : List Event) → Late c i V B maj past → is_filled c r p (event_after c past by (Verb.Fuo q) ∷ part r past) i ≡ true → Settled c i V B maj p past
filled_fuo c i V B maj r p by q past s h =
    elim (or_cases ((by == r) && ((q == p) && nat_lt i (region_fuo q past))) (is_filled c r p (part r past) i) h) [
      | inl k ↦ (let m = and_parts (q == p) (nat_lt i (region_fuo q past)) (and_parts (by == r) ((q == p) && nat_lt i (region_fuo q past)) k).1 in
          s.settled p (inl (subst (λ z. i < region_fuo z past) (eqb-true q p m.0) (ltb-true i (region_fuo q past) m.1))))
      | inr k ↦ s.filled r p k
    ]

trust_of : (c : Config) (r i x by : ℕ) (J now : List Event) (v : Verb) (a : Answer) → Teaches c r J now i x by v a → (q j : ℕ) → Verb.Look q j ≡ v → is_known_decided r J q i ≡ true
trust_of c r i x by J now v a (by_put o acc) q j e = cc
trust_of c r i x by J now v a (by_look {p = p} o tr) q j e = let k : p ≡ q = cc in subst (λ z. is_known_decided r J z i ≡ true) k tr

filled_look : (c : Config) (i V B : ℕ) (maj : ℕ → Bool) (r p by q j : ℕ) (past : List Event) → IsLegalHistory c past → Late c i V B maj past → (a : Answer) → is_filled c r p (record { by = by; verb = Verb.Look q j; answer = a } ∷ part r past) i ≡ true → Settled c i V B maj p past
filled_look c i V B maj r p by q j past h s (Answer.Entry b v) m =
    let now : List Event = record { by = by; verb = Verb.Look q j; answer = Answer.Entry b v } ∷ part r past in
    let last : Bool = (length (known c r (part r past)) == i) && (length (known c r now) == i + 1) in
    elim (or_cases ((by == r) && ((p == r) && ((q == r) && ((j == i) && last)))) (is_filled c r p (part r past) i) m) [
      | inl k ↦ (let x = and_parts (p == r) ((q == r) && ((j == i) && last)) (and_parts (by == r) ((p == r) && ((q == r) && ((j == i) && last))) k).1 in
          let y = and_parts (q == r) ((j == i) && last) x.1 in
          let z = and_parts (j == i) last y.1 in
          let u = and_parts (length (known c r (part r past)) == i) (length (known c r now) == i + 1) z.1 in
          let same : q ≡ p = eqb-true q r y.0 ∙ sym (eqb-true p r x.0) in
          s.settled p (subst (λ z. Protected z i past) same (go (learnt_by c r (part r past) (length (known c r (part r past))) by (Verb.Look q j) (Answer.Entry b v) now) refl (eqb-true (length (known c r (part r past))) i u.0) (eqb-true (length (known c r now)) (i + 1) u.1))))
      | inr k ↦ s.filled r p k
    ]
  where
    go : (o : Option ℕ) → learnt_by c r (part r past) (length (known c r (part r past))) by (Verb.Look q j) (Answer.Entry b v) (record { by = by; verb = Verb.Look q j; answer = Answer.Entry b v } ∷ part r past) ≡ o
        → length (known c r (part r past)) ≡ i → length (grown (known c r (part r past)) o) ≡ i + 1 → Protected q i past
    go None e len l = absurd (omega arith)
    go (Some x) e len l =
        let t = teaches c r (length (known c r (part r past))) x by (Verb.Look q j) (Answer.Entry b v) (part r past) (record { by = by; verb = Verb.Look q j; answer = Answer.Entry b v } ∷ part r past) e in
        trusted_is_protected c r q i past h (subst (λ z. is_known_decided r (part r past) q z ≡ true) len (trust_of c r (length (known c r (part r past))) x by (part r past) (record { by = by; verb = Verb.Look q j; answer = Answer.Entry b v } ∷ part r past) (Verb.Look q j) (Answer.Entry b v) t q j refl))
filled_look c i V B maj r p by q j past h s a m = s.filled r p m

pub value_is : (o : Option ℕ) (w : ℕ) → is_value o w ≡ true → o ≡ Some w
value_is None w k = absurd (true≢false (sym k))
value_is (Some x) w k = ap Some (eqb-true x w k)

pub filled_put : (c : Config) (i V B : ℕ) (maj : ℕ → Bool) (p by q j n w : ℕ) (past : List Event) → IsLegalHistory c past → Allowed c by (part by past) (Verb.PutSlot q j n w) → Know c i V past
    → (a : Answer) → put_answer (drained by q past) ≡ a → Base c i V B maj (record { by = by; verb = Verb.PutSlot q j n w; answer = a } ∷ past)
    → (is_filled c by p (part by past) i ≡ true → Settled c i V B maj p (record { by = by; verb = Verb.PutSlot q j n w; answer = a } ∷ past))
    → is_filled c by p (record { by = by; verb = Verb.PutSlot q j n w; answer = a } ∷ part by past) i ≡ true → Settled c i V B maj p (record { by = by; verb = Verb.PutSlot q j n w; answer = a } ∷ past)
filled_put c i V B maj p by q j n w past h al kn Answer.Done ans base' old m =
    let now : List Event = put by q j n w ∷ part by past in
    let here : Bool = (q == p) && ((j == i) && is_value (slice_get (known c by (part by past)) i) w) in
    let there : Bool = (length (known c by (part by past)) == i) && ((length (known c by now) == i + 1) && has (lands_entry by p i n w) (leadership by now)) in
    elim (or_cases ((by == by) && (here || there)) (is_filled c by p (part by past) i) m) [
      | inl k ↦ elim (or_cases here there (and_parts (by == by) (here || there) k).1) [
        | inl u ↦ (let x = and_parts (q == p) ((j == i) && is_value (slice_get (known c by (part by past)) i) w) u in
            let y = and_parts (j == i) (is_value (slice_get (known c by (part by past)) i) w) x.1 in
            here_settles c i V B maj p by q j n w past h al.may ans (kn by) x.0 y.0 (value_is (slice_get (known c by (part by past)) i) w y.1))
        | inr u ↦ (let x = and_parts (length (known c by (part by past)) == i) ((length (known c by now) == i + 1) && has (lands_entry by p i n w) (leadership by now)) u in
            let y = and_parts (length (known c by now) == i + 1) (has (lands_entry by p i n w) (leadership by now)) x.1 in
            there_settles c i V B maj p by q j n w past h al ans base' (eqb-true (length (known c by (part by past))) i x.0) (eqb-true (length (known c by now)) (i + 1) y.0) y.1)
      ]
      | inr k ↦ old k
    ]
filled_put c i V B maj p by q j n w past h al kn a ans base' old m = old m

filled_kept : (c : Config) (i V B : ℕ) (maj : ℕ → Bool) (r p by : ℕ) (v : Verb) (past : List Event) → IsLegalHistory c past → Allowed c by (part by past) v → Late c i V B maj past → Base c i V B maj (event_after c past by v ∷ past)
    → is_filled c r p (part r (event_after c past by v ∷ past)) i ≡ true → Settled c i V B maj p (event_after c past by v ∷ past)
filled_kept c i V B maj r p by (Verb.Fuo q) past h al s base' = at_part' (λ J. is_filled c r p J i ≡ true → Settled c i V B maj p (event_after c past by (Verb.Fuo q) ∷ past)) r (event_after c past by (Verb.Fuo q)) past
    (λ _ m. settled_step c i V B maj p by (Verb.Fuo q) past h al.may s.base s.knows (s.filled r p m)) (λ _ m. settled_step c i V B maj p by (Verb.Fuo q) past h al.may s.base s.knows (filled_fuo c i V B maj r p by q past s m))
filled_kept c i V B maj r p by (Verb.Look q j) past h al s base' = at_part' (λ J. is_filled c r p J i ≡ true → Settled c i V B maj p (event_after c past by (Verb.Look q j) ∷ past)) r (event_after c past by (Verb.Look q j)) past
    (λ _ m. settled_step c i V B maj p by (Verb.Look q j) past h al.may s.base s.knows (s.filled r p m)) (λ _ m. settled_step c i V B maj p by (Verb.Look q j) past h al.may s.base s.knows (filled_look c i V B maj r p by q j past h s (look_reply c.ring (region_log q past) j) m))
filled_kept c i V B maj r p by (Verb.PutSlot q j n w) past h al s base' = at_part' (λ J. is_filled c r p J i ≡ true → Settled c i V B maj p (event_after c past by (Verb.PutSlot q j n w) ∷ past)) r (event_after c past by (Verb.PutSlot q j n w)) past
    (λ _ m. old r m)
    (λ hx. subst (λ z. is_filled c z p (event_after c past by (Verb.PutSlot q j n w) ∷ part z past) i ≡ true → Settled c i V B maj p (event_after c past by (Verb.PutSlot q j n w) ∷ past)) (eqb-true by r hx) (filled_put c i V B maj p by q j n w past h al s.knows (put_answer (drained by q past)) refl base' (old by)))
  where
    old : (r : ℕ) → is_filled c r p (part r past) i ≡ true → Settled c i V B maj p (event_after c past by (Verb.PutSlot q j n w) ∷ past)
    old r m = settled_step c i V B maj p by (Verb.PutSlot q j n w) past h al.may s.base s.knows (s.filled r p m)
filled_kept c i V B maj r p by v past h al s base' = at_part' (λ J. is_filled c r p J i ≡ true → Settled c i V B maj p (event_after c past by v ∷ past)) r (event_after c past by v) past
    (λ _ m. settled_step c i V B maj p by v past h al.may s.base s.knows (s.filled r p m)) (λ _ m. settled_step c i V B maj p by v past h al.may s.base s.knows (s.filled r p m))

-- one step after the choice
pub late_step : (c : Config) (i V B : ℕ) (maj : ℕ → Bool) (by : ℕ) (v : Verb) (past : List Event) → IsLegalHistory c past → Allowed c by (part by past) v → Late c i V B maj past → Late c i V B maj (event_after c past by v ∷ past)
late_step c i V B maj by v past h al s = record {
  base = base';
  knows = knows_kept c i V B maj by v past h s base';
  settled = λ p k. settled_step c i V B maj p by v past h al.may s.base s.knows (settled_kept c i V B maj p by v past h al.may s k);
  filled = λ r p m. filled_kept c i V B maj r p by v past h al s base' m;
  copied = λ r p. copied_step c i V B maj r p by v past h al.may s;
}
  where
    base' : Base c i V B maj (event_after c past by v ∷ past)
    base' = base_step c i V B maj by v past h al.may s.base (s.knows by)
