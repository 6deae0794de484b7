-- At most one value is chosen per position, and every known entry is chosen.
use Rattle.std.proofs.Common.{◌≡◌, ℕ, zero, suc, ◌<◌, ◌⊎◌, inl, inr, Bool, true, false, cond, ◌&&◌, ◌==◌, List, [], ◌∷◌, ◌++◌, refl, sym, ◌∙◌, ap, arith, Some, None, subst, eqb-true, true≢false, length}
use Rattle.std.specs.declared.option.Option.{Option}
use Rattle.std.specs.Prelude.{is_some}
use Rattle.std.specs.List.{slice_get}
use Rattle.std.proofs.lemmas.Option.{slice_get_within}
use Rattle.mu_model.specs.declared.config.Config.{Config}
use Rattle.mu_model.specs.declared.event.Event.{Event}
use Rattle.mu_model.specs.declared.event.Verb.{Verb}
use Rattle.mu_model.specs.declared.event.Answer.{Answer}
use Rattle.mu_model.specs.Allowed.{Needs}
use Rattle.mu_model.specs.Answers.{answer_of, drained, put_answer}
use Rattle.mu_model.specs.Histories.{earlier_or, has, newer_or, oldest, part}
use Rattle.mu_model.specs.Knowledge.{grown, known, learnt_by}
use Rattle.mu_model.specs.Leaderships.{grant_at_joining, is_first_ask, is_member, lands_min, leadership, noted_grant}
use Rattle.mu_model.specs.Legal.{IsLegalHistory}
use Rattle.mu_model.specs.Picks.{first_value, value_put}
use Rattle.mu_model.specs.Regions.{region_log}
use Rattle.mu_agree.proofs.Legal.{event_after, legal_induction}
use Rattle.mu_agree.proofs.Knowing.{Teaches, teaches, by_put, by_look}
use Rattle.mu_agree.proofs.Landings.{at_part, look_stands}
use Rattle.mu_agree.proofs.Early.{accepted_chosen, trusted_is_protected, PutValue, copies_known, repeats_offer, offers_first, put_value}
use Rattle.mu_agree.proofs.Late.{Base, chosen_is}
use Rattle.mu_agree.proofs.Tame.{known_longer}
use Rattle.mu_agree.proofs.Settled.{Late, Know}
use Rattle.mu_model.proofs.Basics.{same_some, none_some}
use Rattle.mu_model.proofs.Putting.{MayPutSlot, put_facts}

pub get_more : (xs : List ℕ) (i v x : ℕ) → slice_get (xs ++ v ∷ []) i ≡ Some x → (slice_get xs i ≡ Some x) ⊎ ((i ≡ length xs) × (x ≡ v))
get_more [] zero v x e = inr (refl, sym (same_some v x e))
get_more [] (suc i) v x e = cc
get_more (y ∷ xs) zero v x e = inl e
get_more (y ∷ xs) (suc i) v x e = elim (get_more xs i v x e) [ inl k ↦ inl k | inr k ↦ inr (ap suc k.0, k.1) ]

-- what a step teaches is the chosen value
taught_is : (c : Config) (i V B : ℕ) (maj : ℕ → Bool) (r by : ℕ) (v : Verb) (past : List Event) → IsLegalHistory c past → Late c i V B maj past → Base c i V B maj (event_after c past by v ∷ past)
    → (x : ℕ) (v' : Verb) (a : Answer) → event_after c past by v ≡ record { by = by; verb = v'; answer = a } → Teaches c r (part r past) (event_after c past by v ∷ part r past) i x by v' a → x ≡ V
taught_is c i V B maj r by v past h s base' x v' a e (by_put {b = b} o acc) = chosen_is c i V B maj (event_after c past by v ∷ past) base' b x (accepted_chosen c r i b x (event_after c past by v) past acc)
taught_is c i V B maj r by v past h s base' x v' a e (by_look {p = p} {b = b} o tr) =
    let ev : v ≡ Verb.Look p i = ap (λ z. z.verb) e in
    let ea : answer_of c by past v ≡ Answer.Entry b x = ap (λ z. z.answer) e in
    let er : answer_of c by past (Verb.Look p i) ≡ Answer.Entry b x = subst (λ z. answer_of c by past z ≡ Answer.Entry b x) ev ea in
    (s.settled p (trusted_is_protected c r p i past h tr)).shows (b, x) (look_stands c.ring (region_log p past) i b x er)

pub knows_kept : (c : Config) (i V B : ℕ) (maj : ℕ → Bool) (by : ℕ) (v : Verb) (past : List Event) → IsLegalHistory c past → Late c i V B maj past → Base c i V B maj (event_after c past by v ∷ past) → Know c i V (event_after c past by v ∷ past)
knows_kept c i V B maj by v past h s base' r x = at_part (λ J. slice_get (known c r J) i ≡ Some x → x ≡ V) r (event_after c past by v) past (s.knows r x) (λ _. go (learnt_by c r (part r past) (length (known c r (part r past))) by v (answer_of c by past v) (event_after c past by v ∷ part r past)) refl)
  where
    go : (o : Option ℕ) → learnt_by c r (part r past) (length (known c r (part r past))) by v (answer_of c by past v) (event_after c past by v ∷ part r past) ≡ o → slice_get (grown (known c r (part r past)) o) i ≡ Some x → x ≡ V
    go None e k = s.knows r x k
    go (Some y) e k = elim (get_more (known c r (part r past)) i y x k) [
      | inl m ↦ s.knows r x m
      | inr m ↦ m.1 ∙ taught_is c i V B maj r by v past h s base' y v (answer_of c by past v) refl
          (subst (λ z. Teaches c r (part r past) (event_after c past by v ∷ part r past) z y by v (answer_of c by past v)) (sym m.0) (teaches c r (length (known c r (part r past))) y by v (answer_of c by past v) (part r past) (event_after c past by v ∷ part r past) e))
    ]

-- what a leadership put
abbrev pub value_at : ℕ → ℕ → ℕ → ℕ → Verb → Bool
value_at r i x by (Verb.PutSlot q j n w) = (by == r) && ((j == i) && (w == x))
value_at r i x by _ = false

pub put_first : (r i x : ℕ) (J : List Event) → has (λ e. value_at r i x e.by e.verb) J ≡ true → oldest (λ e. value_put r i e.by e.verb) J ≡ None → ⊥
put_first r i x [] m e = true≢false (sym m)
put_first r i x (f ∷ J) m e = go f.by f.verb m e (put_first r i x J)
  where
    go : (by : ℕ) (v : Verb) → cond (value_at r i x by v) true (has (λ e. value_at r i x e.by e.verb) J) ≡ true → earlier_or (value_put r i by v) (oldest (λ e. value_put r i e.by e.verb) J) ≡ None
        → (has (λ e. value_at r i x e.by e.verb) J ≡ true → oldest (λ e. value_put r i e.by e.verb) J ≡ None → ⊥) → ⊥
    go by (Verb.PutSlot q j n w) m e ih = at (by == r) (j == i) (w == x) (oldest (λ e. value_put r i e.by e.verb) J) refl m e
      where
        at : (t u y : Bool) (o : Option ℕ) → oldest (λ e. value_put r i e.by e.verb) J ≡ o → cond (t && (u && y)) true (has (λ e. value_at r i x e.by e.verb) J) ≡ true → earlier_or (cond (t && u) (Some w) None) o ≡ None → ⊥
        at true true y None eo m e = none_some w (sym e)
        at true true y (Some z) eo m e = none_some z (sym e)
        at true false y o eo m e = ih m (eo ∙ e)
        at false u y o eo m e = ih m (eo ∙ e)
    go by v m e ih = ih m e

-- a put of another value than the first comes from what is known
abbrev pub Firsts : Config → ℕ → ℕ → ℕ → List Event → Type 0
Firsts c r i x J = (f : ℕ) → first_value r i J ≡ Some f → has (λ e. value_at r i x e.by e.verb) (leadership r J) ≡ true → (f ≡ x) ⊎ (i < length (known c r J))

known_more : (c : Config) (r i f x : ℕ) (e : Event) (J : List Event) → (f ≡ x) ⊎ (i < length (known c r J)) → (f ≡ x) ⊎ (i < length (known c r (e ∷ J)))
known_more c r i f x e J (inl k) = inl k
known_more c r i f x e J (inr k) = inr (let l = known_longer c r e J in omega arith)

firsts_ask : (c : Config) (r i x by q : ℕ) (past J : List Event) → Firsts c r i x J → (t : Bool) → is_first_ask r by (Verb.Ask q) ≡ t → Firsts c r i x (event_after c past by (Verb.Ask q) ∷ J)
firsts_ask c r i x by q past J s true h = rw h (λ f e. absurd (none_some f e))
firsts_ask c r i x by q past J s false h = rw h s

firsts_slot : (c : Config) (r i x by q j n w : ℕ) (past : List Event) (a : Answer) → IsLegalHistory c past → Needs c r (part r past) (Verb.PutSlot q j n w) → Firsts c r i x (part r past) → (by == r) ≡ true → (t : Bool) → (j == i) ≡ t
    → Firsts c r i x (record { by = by; verb = Verb.PutSlot q j n w; answer = a } ∷ part r past)
firsts_slot c r i x by q j n w past a h may s hx false hj f = rw (hx, hj) (λ e m. known_more c r i f x (record { by = by; verb = Verb.PutSlot q j n w; answer = a }) (part r past) (s f e m))
firsts_slot c r i x by q j n w past a h may s hx true hj f = rw (hx, hj) (λ e m. go (first_value r i (part r past)) refl e (w == x) refl m)
  where
    at : PutValue c r i n w past
    at = put_value c r q i n w past h (subst (λ z. MayPutSlot c r (part r past) q z n w) (eqb-true j i hj) (put_facts c r (part r past) q j n w may))

    go : (o : Option ℕ) → first_value r i (part r past) ≡ o → earlier_or (Some w) o ≡ Some f → (u : Bool) → (w == x) ≡ u → cond u true (has (λ e. value_at r i x e.by e.verb) (leadership r (part r past))) ≡ true
        → (f ≡ x) ⊎ (i < length (known c r (record { by = by; verb = Verb.PutSlot q j n w; answer = a } ∷ part r past)))
    go None eo e true hu m = inl (sym (same_some w f e) ∙ eqb-true w x hu)
    go None eo e false hu m = absurd (put_first r i x (leadership r (part r past)) m eo)
    go (Some g) eo e false hu m = known_more c r i f x (record { by = by; verb = Verb.PutSlot q j n w; answer = a }) (part r past) (s f (eo ∙ e) m)
    go (Some g) eo e true hu m = from at
      where
        from : PutValue c r i n w past → (f ≡ x) ⊎ (i < length (known c r (record { by = by; verb = Verb.PutSlot q j n w; answer = a } ∷ part r past)))
        from (copies_known k) = known_more c r i f x (record { by = by; verb = Verb.PutSlot q j n w; answer = a }) (part r past) (inr (slice_get_within (known c r (part r past)) i w k))
        from (repeats_offer o f1 nx jn) = inl (same_some f w (sym e ∙ sym eo ∙ f1) ∙ eqb-true w x hu)
        from (offers_first o f1 nx fd g') = absurd (none_some g (sym f1 ∙ eo))

firsts_step : (c : Config) (r i x by : ℕ) (v : Verb) (past : List Event) → IsLegalHistory c past → Needs c by (part by past) v → Firsts c r i x (part r past) → Firsts c r i x (part r (event_after c past by v ∷ past))
firsts_step c r i x by (Verb.Ask q) past h may s = at_part (Firsts c r i x) r (event_after c past by (Verb.Ask q)) past s (λ _. firsts_ask c r i x by q past (part r past) s (is_first_ask r by (Verb.Ask q)) refl)
firsts_step c r i x by (Verb.PutSlot q j n w) past h may s = at_part (Firsts c r i x) r (event_after c past by (Verb.PutSlot q j n w)) past s
    (λ hx. firsts_slot c r i x by q j n w past (put_answer (drained by q past)) h (subst (λ z. Needs c z (part z past) (Verb.PutSlot q j n w)) (eqb-true by r hx) may) s hx (j == i) refl)
firsts_step c r i x by v past h may s = at_part (Firsts c r i x) r (event_after c past by v) past s (λ _ f e m. known_more c r i f x (event_after c past by v) (part r past) (s f e m))

pub firsts : (c : Config) (r i x : ℕ) (past : List Event) → IsLegalHistory c past → Firsts c r i x (part r past)
firsts c r i x = legal_induction c (λ past. Firsts c r i x (part r past)) (λ f e. absurd (none_some f e)) (λ past by v h may s. firsts_step c r i x by v past h may.may s)

-- if r put at p, it is a leader, and p is a member of its leadership
abbrev pub slot_at : ℕ → ℕ → ℕ → Verb → Bool
slot_at r p by (Verb.PutSlot q j n w) = (by == r) && (q == p)
slot_at r p by _ = false

abbrev pub PutsAtMembers : ℕ → ℕ → List Event → Type 0
PutsAtMembers r p J = has (λ e. slot_at r p e.by e.verb) (leadership r J) ≡ true → is_member r p J ≡ true

at_ask : (c : Config) (r p by q : ℕ) (past J : List Event) → PutsAtMembers r p J → (t : Bool) → is_first_ask r by (Verb.Ask q) ≡ t → PutsAtMembers r p (event_after c past by (Verb.Ask q) ∷ J)
at_ask c r p by q past J s true h = rw h (λ m. absurd (true≢false (sym m)))
at_ask c r p by q past J s false h = rw h s

at_slot : (c : Config) (r p by q j n w : ℕ) (past : List Event) → Needs c r (part r past) (Verb.PutSlot q j n w) → PutsAtMembers r p (part r past) → (by == r) ≡ true → (t : Bool) → (q == p) ≡ t → PutsAtMembers r p (event_after c past by (Verb.PutSlot q j n w) ∷ part r past)
at_slot c r p by q j n w past may s hx true hq = rw (hx, hq) (λ m. subst (λ z. is_member r z (part r past) ≡ true) (eqb-true q p hq) (put_facts c r (part r past) q j n w may).member)
at_slot c r p by q j n w past may s hx false hq = rw (hx, hq) s

joined_more : (o : Option (Option ℕ)) (n : Option ℕ) (t : Bool) → is_some o ≡ true → is_some (cond t (newer_or o (Some n)) o) ≡ true
joined_more (Some x) n true h = refl
joined_more (Some x) n false h = refl
joined_more None n t h = absurd (true≢false (sym h))

at_step : (c : Config) (r p by : ℕ) (v : Verb) (past : List Event) → Needs c by (part by past) v → PutsAtMembers r p (part r past) → PutsAtMembers r p (part r (event_after c past by v ∷ past))
at_step c r p by (Verb.Ask q) past may s = at_part (PutsAtMembers r p) r (event_after c past by (Verb.Ask q)) past s (λ _. at_ask c r p by q past (part r past) s (is_first_ask r by (Verb.Ask q)) refl)
at_step c r p by (Verb.PutSlot q j n w) past may s = at_part (PutsAtMembers r p) r (event_after c past by (Verb.PutSlot q j n w)) past s
    (λ hx. at_slot c r p by q j n w past (subst (λ z. Needs c z (part z past) (Verb.PutSlot q j n w)) (eqb-true by r hx) may) s hx (q == p) refl)
at_step c r p by (Verb.PutMin q b) past may s = at_part (PutsAtMembers r p) r (event_after c past by (Verb.PutMin q b)) past s
    (λ _ m. joined_more (grant_at_joining r p (part r past)) (noted_grant r p (part r past)) (lands_min r p by (Verb.PutMin q b) (put_answer (drained by q past))) (s m))
at_step c r p by v past may s = at_part (PutsAtMembers r p) r (event_after c past by v) past s (λ _. s)

pub puts_at_members : (c : Config) (r p : ℕ) (past : List Event) → IsLegalHistory c past → PutsAtMembers r p (part r past)
puts_at_members c r p = legal_induction c (λ past. PutsAtMembers r p (part r past)) (λ m. absurd (true≢false (sym m))) (λ past by v h may s. at_step c r p by v past may.may s)
