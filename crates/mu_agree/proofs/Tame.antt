-- Leaders that can put nothing but the chosen value.
use Rattle.std.proofs.Common.{◌≡◌, ℕ, zero, suc, ◌+◌, ◌<◌, ◌≤◌, ◌⊎◌, inl, inr, Bool, true, false, cond, ◌&&◌, ◌==◌, List, [], ◌∷◌, refl, sym, ◌∙◌, ap, arith, Some, None, subst, eqb-true, true≢false, length}
use Rattle.std.specs.declared.option.Option.{Option}
use Rattle.std.specs.Prelude.{is_some, is_none, nat_lt}
use Rattle.std.specs.List.{slice_get}
use Rattle.std.proofs.lemmas.List.{length_push}
use Rattle.std.proofs.lemmas.Option.{slice_get_within}
use Rattle.std.proofs.lemmas.Bool.{and_parts, cases_eq}
use Rattle.mu_model.specs.declared.config.Config.{Config}
use Rattle.mu_model.specs.declared.event.Event.{Event}
use Rattle.mu_model.specs.declared.event.Verb.{Verb}
use Rattle.mu_model.specs.declared.event.Answer.{Answer}
use Rattle.mu_model.specs.Allowed.{Needs}
use Rattle.mu_model.specs.Answers.{drained, put_answer, shown}
use Rattle.mu_model.specs.Histories.{earlier_or, newer_or, oldest, part}
use Rattle.mu_model.specs.Knowledge.{grown, known, learnt_by}
use Rattle.mu_model.specs.Leaderships.{is_first_ask, is_member, proposal_number}
use Rattle.mu_model.specs.Legal.{IsLegalHistory}
use Rattle.mu_model.specs.Picks.{entry_of, first_value, last_look, since_last_joining, value_put}
use Rattle.mu_model.specs.Regions.{region_log}
use Rattle.mu_agree.proofs.Legal.{event_after}
use Rattle.mu_agree.proofs.Joins.{joined_late}
use Rattle.mu_agree.proofs.Counting.{Member, share, count_more}
use Rattle.mu_agree.proofs.Members.{number_stays}
use Rattle.mu_agree.proofs.Landings.{look_reply}
use Rattle.mu_agree.proofs.Landed.{has_landed, landed_stays, landed_facts, landed_within}
use Rattle.mu_agree.proofs.Offers.{first_offered, offer_stays}
use Rattle.mu_agree.proofs.Choice.{Chosen, not_chosen, none_accepted, takes_highest, Seeing, best_none, best_most}
use Rattle.mu_agree.proofs.Early.{PutValue, copies_known, repeats_offer, offers_first, put_value, fresh_safe}
use Rattle.mu_agree.proofs.Late.{Base}
use Rattle.mu_model.proofs.Basics.{same_some, none_some}
use Rattle.mu_model.proofs.Putting.{MayPutSlot, put_facts}

pub record LateEntry (B : ℕ) (a : Answer) : Type 0 where
  pub m : ℕ
  pub u : ℕ
  pub is : a ≡ Answer.Entry m u
  pub late : B ≤ m

-- all its looks at the choosing regions are later than the choice, and what it put before is of no use to it
pub record Calm (c : Config) (i V B : ℕ) (maj : ℕ → Bool) (r : ℕ) (J : List Event) : Type 0 where
  pub looks : (p : ℕ) (a : Answer) → p < c.replicas → maj p ≡ true → last_look r p i J ≡ Some a → (a ≡ Answer.Past) ⊎ LateEntry B a
  pub joined : (w : ℕ) → first_value r i J ≡ Some w → (w ≡ V → ⊥) → joined_late r i J ≡ true

-- a lower number chose V by its own offer
pub record Below (c : Config) (i V r : ℕ) (J past : List Event) : Type 0 where
  pub b : ℕ
  pub m : ℕ
  pub num : proposal_number r J ≡ Some m
  pub less : b < m
  pub mine : first_offered i b past ≡ Some V
  pub chosen : Chosen c i b V past

pub data Tame (c : Config) (i V B : ℕ) (maj : ℕ → Bool) (r : ℕ) (J past : List Event) : Type 0 where
  knowing : i < length (known c r J) → Tame c i V B maj r J past
  under : Below c i V r J past → Tame c i V B maj r J past
  calm : Calm c i V B maj r J → Tame c i V B maj r J past

record Shared (c : Config) (i B r : ℕ) (past : List Event) : Type 0 where
  p : ℕ
  below : p < c.replicas
  member : is_member r p (part r past) ≡ true
  m : ℕ
  u : ℕ
  look : entry_of (last_look r p i (part r past)) ≡ Some (m, u)
  late : B ≤ m

shared_look : (c : Config) (i V B : ℕ) (maj : ℕ → Bool) (r b w : ℕ) (past : List Event) → Base c i V B maj past → Seeing c r i b w past → Calm c i V B maj r (part r past) → Shared c i B r past
shared_look c i V B maj r b w past s g k = at (share c.replicas maj (λ p. is_member r p (part r past)) s.many g.carried)
  where
    at : Member c.replicas (λ p. maj p && is_member r p (part r past)) → Shared c i B r past
    at m = go (last_look r m.who i (part r past)) refl (g.looked m.who m.below x.1)
      where
        x : (maj m.who ≡ true) × (is_member r m.who (part r past) ≡ true)
        x = and_parts (maj m.who) (is_member r m.who (part r past)) m.passes

        go : (o : Option Answer) → last_look r m.who i (part r past) ≡ o → is_some o ≡ true → Shared c i B r past
        go None e t = cc
        go (Some a) e t = elim (k.looks m.who a m.below x.0 e) [
          | inl q ↦ absurd (g.not_past m.who m.below x.1 (e ∙ ap Some q))
          | inr q ↦ record { p = m.who; below = m.below; member = x.1; m = q.m; u = q.u; look = ap entry_of (e ∙ ap Some q.is); late = q.late }
        ]

-- a tame leader puts only V
pub tame_put : (c : Config) (i V B : ℕ) (maj : ℕ → Bool) (r q b w : ℕ) (past : List Event) → IsLegalHistory c past → Base c i V B maj past
    → ((x : ℕ) → slice_get (known c r (part r past)) i ≡ Some x → x ≡ V) → Tame c i V B maj r (part r past) past → MayPutSlot c r (part r past) q i b w → w ≡ V
tame_put c i V B maj r q b w past h s kn t may = elim (cases_eq w V) [ inl e ↦ e | inr d ↦ absurd (go d (put_value c r q i b w past h may) t) ]
  where
    lower : (w ≡ V → ⊥) → Below c i V r (part r past) past → ((n : ℕ) → n < b → first_offered i n past ≡ Some V → Chosen c i n V past → ⊥) → ⊥
    lower d u f = let e : u.m ≡ b = same_some u.m b (sym u.num ∙ may.numbered) in let l = u.less in f u.b (omega arith) u.mine u.chosen

    go : (w ≡ V → ⊥) → PutValue c r i b w past → Tame c i V B maj r (part r past) past → ⊥
    go d (copies_known k) t = d (kn w k)
    go d (repeats_offer o f nx jn) (knowing l) = omega arith
    go d (repeats_offer o f nx jn) (calm k) = true≢false (sym (k.joined w f d) ∙ jn)
    go d (repeats_offer o f nx jn) (under u) = lower d u (λ n l o' ch. not_chosen c i n V past (λ p k. o') (s.safe_offers b w n V o d l d) ch)
    go d (offers_first o f nx fd g) (knowing l) = omega arith
    go d (offers_first o f nx fd g) (under u) = lower d u (λ n l o' ch. not_chosen c i n V past (λ p k. o') (fresh_safe c r i b w past fd (λ m p k. (s.own p m w k d, λ n' y q' e. s.safe_offers m w n' y (s.own p m w k d) d q' e)) n V l d) ch)
    go d (offers_first o f nx (none_accepted e many) g) (calm k) = let x = shared_look c i V B maj r b w past s g k in none_some (x.m, x.u) (sym (best_none r i c.replicas (part r past) e x.p x.below x.member) ∙ x.look)
    go d (offers_first o f nx (takes_highest m p e at many) g) (calm k) =
        let x = shared_look c i V B maj r b w past s g k in
        let l = best_most r i c.replicas (part r past) (m, w) e x.p x.below x.member (x.m, x.u) x.look in
        let y = x.late in d (s.above p m w (omega arith) at)

pub chosen_stays : (c : Config) (i b v : ℕ) (e : Event) (past : List Event) → Chosen c i b v past → Chosen c i b v (e ∷ past)
chosen_stays c i b v e past h = let k = count_more c.replicas (λ p. has_landed p i b v past) (λ p. has_landed p i b v (e ∷ past)) (λ p l m. landed_stays p i b v e past m) in omega arith

pub known_longer : (c : Config) (r : ℕ) (e : Event) (J : List Event) → length (known c r J) ≤ length (known c r (e ∷ J))
known_longer c r e J = go (learnt_by c r J (length (known c r J)) e.by e.verb e.answer (e ∷ J))
  where
    go : (o : Option ℕ) → length (known c r J) ≤ length (grown (known c r J) o)
    go None = omega arith
    go (Some x) = let l = length_push (known c r J) x in omega arith

under_stays : (c : Config) (i V r : ℕ) (e : Event) (J now past : List Event) → ((m : ℕ) → proposal_number r J ≡ Some m → proposal_number r now ≡ Some m) → Below c i V r J past → Below c i V r now (e ∷ past)
under_stays c i V r e J now past f u = record { b = u.b; m = u.m; num = f u.m u.num; less = u.less; mine = offer_stays i u.b V e past u.mine; chosen = chosen_stays c i u.b V e past u.chosen }

-- an own step that changes neither number nor looks nor values
same_tame : (c : Config) (i V B : ℕ) (maj : ℕ → Bool) (r : ℕ) (e : Event) (J past : List Event) → ((m : ℕ) → proposal_number r J ≡ Some m → proposal_number r (e ∷ J) ≡ Some m) → (Calm c i V B maj r J → Calm c i V B maj r (e ∷ J))
    → Tame c i V B maj r J past → Tame c i V B maj r (e ∷ J) (e ∷ past)
same_tame c i V B maj r e J past f g (knowing l) = knowing (let k = known_longer c r e J in omega arith)
same_tame c i V B maj r e J past f g (under u) = under (under_stays c i V r e J (e ∷ J) past f u)
same_tame c i V B maj r e J past f g (calm k) = calm (g k)

pub other_tame : (c : Config) (i V B : ℕ) (maj : ℕ → Bool) (r : ℕ) (e : Event) (J past : List Event) → Tame c i V B maj r J past → Tame c i V B maj r J (e ∷ past)
other_tame c i V B maj r e J past (knowing l) = knowing l
other_tame c i V B maj r e J past (under u) = under (under_stays c i V r e J J past (λ m k. k) u)
other_tame c i V B maj r e J past (calm k) = calm k

ask_tame : (c : Config) (i V B : ℕ) (maj : ℕ → Bool) (r by q : ℕ) (J past : List Event) (a : Answer) → Tame c i V B maj r J past → (t : Bool) → is_first_ask r by (Verb.Ask q) ≡ t
    → Tame c i V B maj r (record { by = by; verb = Verb.Ask q; answer = a } ∷ J) (record { by = by; verb = Verb.Ask q; answer = a } ∷ past)
ask_tame c i V B maj r by q J past a t true h = calm (record { looks = rw h (λ p x l m e. absurd (none_some x e)); joined = rw h (λ w e. absurd (none_some w e)) })
ask_tame c i V B maj r by q J past a t false h = same_tame c i V B maj r (record { by = by; verb = Verb.Ask q; answer = a }) J past (rw h (λ m k. k)) (λ k. record { looks = rw h k.looks; joined = rw h k.joined }) t

min_tame : (c : Config) (i V B : ℕ) (maj : ℕ → Bool) (r by q b : ℕ) (J past : List Event) → Tame c i V B maj r J past → (by == r) ≡ true → (a : Answer) → (k : Bool) → is_member r q J ≡ k
    → Tame c i V B maj r (record { by = by; verb = Verb.PutMin q b; answer = a } ∷ J) (record { by = by; verb = Verb.PutMin q b; answer = a } ∷ past)
min_tame c i V B maj r by q b J past t hx Answer.Done false hk = calm (record { looks = rw (hx, hk) (λ p x l m e. absurd (none_some x e)); joined = rw (hx, hk) (λ w e d. refl) })
min_tame c i V B maj r by q b J past t hx Answer.Done true hk = same_tame c i V B maj r (record { by = by; verb = Verb.PutMin q b; answer = Answer.Done }) J past (rw hx (λ m k. number_stays b m (proposal_number r J) k)) (λ k. record { looks = rw (hx, hk) k.looks; joined = rw (hx, hk) k.joined }) t
min_tame c i V B maj r by q b J past t hx a k hk = same_tame c i V B maj r (record { by = by; verb = Verb.PutMin q b; answer = a }) J past (rw hx (λ m k. number_stays b m (proposal_number r J) k)) (λ k. record { looks = k.looks; joined = k.joined }) t

late_look : (c : Config) (i V B p : ℕ) (past : List Event) → IsLegalHistory c past → has_landed p i B V past ≡ true → (look_reply c.ring (region_log p past) i ≡ Answer.Past) ⊎ LateEntry B (look_reply c.ring (region_log p past) i)
late_look c i V B p past h m = go (nat_lt (i + c.ring) (length (region_log p past)))
  where
    stands : (o : Option (ℕ × ℕ)) → slice_get (region_log p past) i ≡ o → LateEntry B (shown o)
    stands None e = absurd (none (region_log p past) i (landed_within c p i B V past h m) e)
      where
        none : (log : List (ℕ × ℕ)) (i : ℕ) → i < length log → slice_get log i ≡ None → ⊥
        none [] i l e = omega arith
        none (x ∷ log) zero l e = cc
        none (x ∷ log) (suc i) l e = none log i (omega arith) e
    stands (Some y) e = record { m = y.0; u = y.1; is = refl; late = (landed_facts c p past h).most i B V y m e }

    go : (t : Bool) → (cond t Answer.Past (shown (slice_get (region_log p past) i)) ≡ Answer.Past) ⊎ LateEntry B (cond t Answer.Past (shown (slice_get (region_log p past) i)))
    go true = inl refl
    go false = inr (stands (slice_get (region_log p past) i) refl)

look_calm : (c : Config) (i V B : ℕ) (maj : ℕ → Bool) (r by q j : ℕ) (past : List Event) → IsLegalHistory c past → Base c i V B maj past → (by == r) ≡ true → Calm c i V B maj r (part r past) → Calm c i V B maj r (event_after c past by (Verb.Look q j) ∷ part r past)
look_calm c i V B maj r by q j past h s hx k = record { looks = λ p a l m. rw hx (at p a l m (q == p) refl (j == i) refl); joined = k.joined }
  where
    at : (p : ℕ) (a : Answer) → p < c.replicas → maj p ≡ true → (x : Bool) → (q == p) ≡ x → (y : Bool) → (j == i) ≡ y
        → newer_or (cond (x && y) (Some (look_reply c.ring (region_log q past) j)) None) (last_look r p i (part r past)) ≡ Some a → (a ≡ Answer.Past) ⊎ LateEntry B a
    at p a l m true hq true hj e =
        let same : look_reply c.ring (region_log q past) j ≡ look_reply c.ring (region_log p past) i = ap (λ x. look_reply c.ring (region_log x past) j) (eqb-true q p hq) ∙ ap (look_reply c.ring (region_log p past)) (eqb-true j i hj) in
        let is : look_reply c.ring (region_log p past) i ≡ a = sym same ∙ same_some (look_reply c.ring (region_log q past) j) a e in
        subst (λ z. (z ≡ Answer.Past) ⊎ LateEntry B z) is (late_look c i V B p past h (s.took p l m))
    at p a l m true hq false hj e = k.looks p a l m e
    at p a l m false hq y hj e = k.looks p a l m e

slot_tame : (c : Config) (i V B : ℕ) (maj : ℕ → Bool) (r by q j n w : ℕ) (past : List Event) → IsLegalHistory c past → Base c i V B maj past
    → ((x : ℕ) → slice_get (known c r (part r past)) i ≡ Some x → x ≡ V) → Tame c i V B maj r (part r past) past → Needs c r (part r past) (Verb.PutSlot q j n w) → (by == r) ≡ true → (a : Answer)
    → Tame c i V B maj r (record { by = by; verb = Verb.PutSlot q j n w; answer = a } ∷ part r past) (record { by = by; verb = Verb.PutSlot q j n w; answer = a } ∷ past)
slot_tame c i V B maj r by q j n w past h s kn t may hx a = go t (j == i) refl
  where
    e : Event
    e = record { by = by; verb = Verb.PutSlot q j n w; answer = a }

    at : j ≡ i → MayPutSlot c r (part r past) q i n w
    at k = subst (λ z. MayPutSlot c r (part r past) q z n w) k (put_facts c r (part r past) q j n w may)

    go : Tame c i V B maj r (part r past) past → (u : Bool) → (j == i) ≡ u → Tame c i V B maj r (record { by = by; verb = Verb.PutSlot q j n w; answer = a } ∷ part r past) (record { by = by; verb = Verb.PutSlot q j n w; answer = a } ∷ past)
    go (knowing l) u hj = knowing (let k = known_longer c r (record { by = by; verb = Verb.PutSlot q j n w; answer = a }) (part r past) in omega arith)
    go (under k) u hj = under (under_stays c i V r (record { by = by; verb = Verb.PutSlot q j n w; answer = a }) (part r past) (record { by = by; verb = Verb.PutSlot q j n w; answer = a } ∷ part r past) past (λ m y. y) k)
    go (calm k) false hj = calm (record { looks = k.looks; joined = rw (hx, hj) k.joined })
    go (calm k) true hj = again_or (first_value r i (part r past)) refl
      where
        is : w ≡ V
        is = tame_put c i V B maj r q n w past h s kn t (at (eqb-true j i hj))

        values : (o : Option ℕ) → first_value r i (part r past) ≡ o → ((f : ℕ) → o ≡ Some f → f ≡ V) → Calm c i V B maj r (record { by = by; verb = Verb.PutSlot q j n w; answer = a } ∷ part r past)
        values o eo f = record { looks = k.looks; joined = rw (hx, hj, eo) (new o f) }
          where
            new : (o : Option ℕ) → ((f : ℕ) → o ≡ Some f → f ≡ V) → (x : ℕ) → earlier_or (Some w) o ≡ Some x → (x ≡ V → ⊥) → is_none (earlier_or (Some w) (oldest (λ f. value_put r i f.by f.verb) (since_last_joining r (part r past)))) ≡ true
            new None f x m d = absurd (d (sym (same_some w x m) ∙ is))
            new (Some y) f x m d = absurd (d (f x m))

        again_or : (o : Option ℕ) → first_value r i (part r past) ≡ o → Tame c i V B maj r (record { by = by; verb = Verb.PutSlot q j n w; answer = a } ∷ part r past) (record { by = by; verb = Verb.PutSlot q j n w; answer = a } ∷ past)
        again_or None eo = calm (values None eo (λ f m. absurd (none_some f m)))
        again_or (Some f) eo = elim (cases_eq f V) [
          | inl d ↦ calm (values (Some f) eo (λ x m. sym (same_some f x m) ∙ d))
          | inr d ↦ from (put_value c r q i n w past h (at (eqb-true j i hj)))
        ]
          where
            from : PutValue c r i n w past → Tame c i V B maj r (record { by = by; verb = Verb.PutSlot q j n w; answer = a } ∷ part r past) (record { by = by; verb = Verb.PutSlot q j n w; answer = a } ∷ past)
            from (copies_known m) = knowing (let l = slice_get_within (known c r (part r past)) i w m in let x = known_longer c r (record { by = by; verb = Verb.PutSlot q j n w; answer = a }) (part r past) in omega arith)
            from (repeats_offer o f1 nx jn) = calm (values (Some f) eo (λ x m. sym (same_some w x (sym f1 ∙ eo ∙ m)) ∙ is))
            from (offers_first o f1 nx fd g) = absurd (none_some f (sym f1 ∙ eo))

-- what is tame stays tame after an own step
pub tame_own : (c : Config) (i V B : ℕ) (maj : ℕ → Bool) (r by : ℕ) (v : Verb) (past : List Event) → IsLegalHistory c past → Needs c by (part by past) v → Base c i V B maj past
    → ((x : ℕ) → slice_get (known c r (part r past)) i ≡ Some x → x ≡ V) → Tame c i V B maj r (part r past) past → (by == r) ≡ true → Tame c i V B maj r (event_after c past by v ∷ part r past) (event_after c past by v ∷ past)
tame_own c i V B maj r by (Verb.Ask q) past h may s kn t hx = ask_tame c i V B maj r by q (part r past) past Answer.Done t (is_first_ask r by (Verb.Ask q)) refl
tame_own c i V B maj r by (Verb.PutMin q b) past h may s kn t hx = min_tame c i V B maj r by q b (part r past) past t hx (put_answer (drained by q past)) (is_member r q (part r past)) refl
tame_own c i V B maj r by (Verb.Look q j) past h may s kn t hx = same_tame c i V B maj r (event_after c past by (Verb.Look q j)) (part r past) past (λ m k. k) (look_calm c i V B maj r by q j past h s hx) t
tame_own c i V B maj r by (Verb.PutSlot q j n w) past h may s kn t hx = slot_tame c i V B maj r by q j n w past h s kn t (subst (λ z. Needs c z (part z past) (Verb.PutSlot q j n w)) (eqb-true by r hx) may) hx (put_answer (drained by q past))
tame_own c i V B maj r by v past h may s kn t hx = same_tame c i V B maj r (event_after c past by v) (part r past) past (λ m k. k) (λ k. record { looks = k.looks; joined = k.joined }) t

-- who has just joined is tame
pub join_tame : (c : Config) (i V B : ℕ) (maj : ℕ → Bool) (r by q b : ℕ) (J past : List Event) → (by == r) ≡ true → is_member r q J ≡ false
    → Tame c i V B maj r (record { by = by; verb = Verb.PutMin q b; answer = Answer.Done } ∷ J) (record { by = by; verb = Verb.PutMin q b; answer = Answer.Done } ∷ past)
join_tame c i V B maj r by q b J past hx hk = calm (record { looks = rw (hx, hk) (λ p x l m e. absurd (none_some x e)); joined = rw (hx, hk) (λ w e d. refl) })
