-- After V was chosen at i, under the number B by the regions of `maj`, nothing else can be.
use Rattle.std.proofs.Common.{◌≡◌, ℕ, ◌<◌, ◌≤◌, ◌⊎◌, inl, inr, Bool, true, false, cond, ◌&&◌, ◌==◌, List, ◌∷◌, refl, sym, ◌∙◌, ap, arith, Some, None, subst, eqb-true}
use Rattle.std.specs.declared.option.Option.{Option}
use Rattle.std.specs.List.{slice_get}
use Rattle.std.proofs.lemmas.Bool.{and_parts, eq-eqb, cases_eq, cases_lt, cases_order}
use Rattle.mu_model.specs.declared.config.Config.{Config}
use Rattle.mu_model.specs.declared.event.Event.{Event}
use Rattle.mu_model.specs.declared.event.Verb.{Verb}
use Rattle.mu_model.specs.declared.event.Answer.{Answer}
use Rattle.mu_model.specs.Allowed.{Needs}
use Rattle.mu_model.specs.Answers.{drained, put_answer}
use Rattle.mu_model.specs.Histories.{count_below, earlier_or, part}
use Rattle.mu_model.specs.Knowledge.{known}
use Rattle.mu_model.specs.Leaderships.{majority_of}
use Rattle.mu_model.specs.Legal.{IsLegalHistory}
use Rattle.mu_agree.proofs.Legal.{event_after}
use Rattle.mu_agree.proofs.Counting.{count_more}
use Rattle.mu_agree.proofs.Landed.{has_landed, is_put, landed_stays}
use Rattle.mu_agree.proofs.Offers.{first_offered, offer_stays}
use Rattle.mu_agree.proofs.Choice.{Chosen, Blocked, blocked_stays, not_chosen, chosen_somewhere, Found, none_accepted, takes_highest}
use Rattle.mu_agree.proofs.Early.{Safe, PutValue, copies_known, repeats_offer, offers_first, put_value, fresh_safe, offered_now}
use Rattle.mu_model.proofs.Basics.{same_some}
use Rattle.mu_model.proofs.Putting.{MayPutSlot, put_facts}

pub record Base (c : Config) (i V B : ℕ) (maj : ℕ → Bool) (past : List Event) : Type 0 where
  pub many : majority_of c.replicas ≤ count_below c.replicas maj
  pub took : (p : ℕ) → p < c.replicas → maj p ≡ true → has_landed p i B V past ≡ true
  pub mine : first_offered i B past ≡ Some V
  pub offers : (b w : ℕ) → B ≤ b → first_offered i b past ≡ Some w → w ≡ V
  pub above : (p b w : ℕ) → B ≤ b → has_landed p i b w past ≡ true → w ≡ V
  pub own : (p b w : ℕ) → has_landed p i b w past ≡ true → (w ≡ V → ⊥) → first_offered i b past ≡ Some w
  pub safe : (n w : ℕ) → n < B → (w ≡ V → ⊥) → Blocked c i n w past
  pub safe_offers : (b v n w : ℕ) → first_offered i b past ≡ Some v → (v ≡ V → ⊥) → n < b → (v ≡ w → ⊥) → Blocked c i n w past

pub chosen_now : (c : Config) (i V B : ℕ) (maj : ℕ → Bool) (past : List Event) → Base c i V B maj past → Chosen c i B V past
chosen_now c i V B maj past s = let k = count_more c.replicas maj (λ p. has_landed p i B V past) s.took in let m = s.many in omega arith

-- nothing else is chosen
pub chosen_is : (c : Config) (i V B : ℕ) (maj : ℕ → Bool) (past : List Event) → Base c i V B maj past → (b x : ℕ) → Chosen c i b x past → x ≡ V
chosen_is c i V B maj past s b x h =
    elim (cases_eq x V) [
      | inl e ↦ e
      | inr d ↦ elim (cases_lt b B) [
        | inl l ↦ absurd (not_chosen c i b x past (λ p k. s.own p b x k d) (s.safe b x l d) h)
        | inr l ↦ (let m = chosen_somewhere c i b x past h in s.above m.who b x l m.passes)
      ]
    ]

record LowValue (c : Config) (i B b w : ℕ) (past : List Event) : Type 0 where
  low : b < B
  how : (first_offered i b past ≡ Some w) ⊎ ((first_offered i b past ≡ None) × ((n x : ℕ) → n < b → (w ≡ x → ⊥) → Blocked c i n x past))

late_value : (c : Config) (i V B : ℕ) (maj : ℕ → Bool) (by q b w : ℕ) (past : List Event) → IsLegalHistory c past → Base c i V B maj past
    → ((x : ℕ) → slice_get (known c by (part by past)) i ≡ Some x → x ≡ V) → MayPutSlot c by (part by past) q i b w
    → (w ≡ V) ⊎ ((w ≡ V → ⊥) × LowValue c i B b w past)
late_value c i V B maj by q b w past h s kn may = elim (cases_eq w V) [ inl e ↦ inl e | inr d ↦ go d (put_value c by q i b w past h may) ]
  where
    high : (w ≡ V → ⊥) → B < b → Found c by i b w past → ⊥
    high d l (none_accepted _ m) = not_chosen c i B V past (λ p k. s.mine) (inr (m B V l)) (chosen_now c i V B maj past s)
    high d l (takes_highest m p _ at k) = elim (cases_lt m B) [ inl x ↦ not_chosen c i B V past (λ p k. s.mine) (inr (k B V x l)) (chosen_now c i V B maj past s) | inr x ↦ d (s.above p m w x at) ]

    go : (w ≡ V → ⊥) → PutValue c by i b w past → (w ≡ V) ⊎ ((w ≡ V → ⊥) × LowValue c i B b w past)
    go d (copies_known k) = absurd (d (kn w k))
    go d (repeats_offer o _ _ _) = elim (cases_lt b B) [ inl l ↦ inr (d, record { low = l; how = inl o }) | inr l ↦ absurd (d (s.offers b w l o)) ]
    go d (offers_first o _ _ f _) = elim (cases_order b B) [
      | inl e ↦ absurd (let k : None ≡ Some V = sym o ∙ ap (λ z. first_offered i z past) e ∙ s.mine in cc)
      | inr x ↦ elim x [
        | inl l ↦ inr (d, record { low = l; how = inr (o, fresh_safe c by i b w past f (λ m p k. (s.own p m w k d, λ n y q' e. s.safe_offers m w n y (s.own p m w k d) d q' e))) })
        | inr l ↦ absurd (high d l f)
      ]
    ]

base_put : (c : Config) (i V B : ℕ) (maj : ℕ → Bool) (by q j n w : ℕ) (past : List Event) → IsLegalHistory c past → Base c i V B maj past
    → ((x : ℕ) → slice_get (known c by (part by past)) i ≡ Some x → x ≡ V) → Needs c by (part by past) (Verb.PutSlot q j n w) → (a : Answer) → put_answer (drained by q past) ≡ a
    → Base c i V B maj (record { by = by; verb = Verb.PutSlot q j n w; answer = a } ∷ past)
base_put c i V B maj by q j n w past h s kn may a ans = record {
  many = s.many;
  took = λ p l k. landed_stays p i B V f past (s.took p l k);
  mine = offer_stays i B V f past s.mine;
  offers = offers';
  above = above' a;
  own = own' a;
  safe = λ m x l d. stays m x (s.safe m x l d);
  safe_offers = safe_offers';
}
  where
    f : Event
    f = record { by = by; verb = Verb.PutSlot q j n w; answer = a }

    stays : (m x : ℕ) → Blocked c i m x past → Blocked c i m x (record { by = by; verb = Verb.PutSlot q j n w; answer = a } ∷ past)
    stays m x k = subst (λ z. Blocked c i m x (record { by = by; verb = Verb.PutSlot q j n w; answer = z } ∷ past)) ans (blocked_stays c i m x by (Verb.PutSlot q j n w) past h may k)

    at : (b : ℕ) → (j ≡ i) → (n ≡ b) → (w ≡ V) ⊎ ((w ≡ V → ⊥) × LowValue c i B b w past)
    at b e1 e2 = late_value c i V B maj by q b w past h s kn (subst (λ z. MayPutSlot c by (part by past) q i z w) e2 (subst (λ z. MayPutSlot c by (part by past) q z n w) e1 (put_facts c by (part by past) q j n w may)))

    offers' : (b x : ℕ) → B ≤ b → first_offered i b (record { by = by; verb = Verb.PutSlot q j n w; answer = a } ∷ past) ≡ Some x → x ≡ V
    offers' b x l e = go (first_offered i b past) refl ((j == i) && (n == b)) refl e
      where
        go : (o : Option ℕ) → first_offered i b past ≡ o → (t : Bool) → ((j == i) && (n == b)) ≡ t → earlier_or (cond t (Some w) None) o ≡ Some x → x ≡ V
        go (Some y) k true ht e' = s.offers b x l (k ∙ e')
        go o k false ht e' = s.offers b x l (k ∙ e')
        go None k true ht e' =
            let y = and_parts (j == i) (n == b) ht in
            elim (at b (eqb-true j i y.0) (eqb-true n b y.1)) [ inl z ↦ sym (same_some w x e') ∙ z | inr z ↦ absurd (let q' = z.1.low in omega arith) ]

    above' : (a : Answer) (p b x : ℕ) → B ≤ b → has_landed p i b x (record { by = by; verb = Verb.PutSlot q j n w; answer = a } ∷ past) ≡ true → x ≡ V
    above' Answer.Done p b x l m = go ((q == p) && ((j == i) && ((n == b) && (w == x)))) refl m
      where
        go : (t : Bool) → ((q == p) && ((j == i) && ((n == b) && (w == x)))) ≡ t → cond t true (has_landed p i b x past) ≡ true → x ≡ V
        go false k e = s.above p b x l e
        go true k e = let y = is_put p i b x q j n w k in elim (at b y.position y.number) [ inl z ↦ sym y.value ∙ z | inr z ↦ absurd (let q' = z.1.low in omega arith) ]
    above' a p b x l m = s.above p b x l m

    own' : (a : Answer) (p b x : ℕ) → has_landed p i b x (record { by = by; verb = Verb.PutSlot q j n w; answer = a } ∷ past) ≡ true → (x ≡ V → ⊥) → first_offered i b (record { by = by; verb = Verb.PutSlot q j n w; answer = a } ∷ past) ≡ Some x
    own' Answer.Done p b x m d = go ((q == p) && ((j == i) && ((n == b) && (w == x)))) refl m
      where
        go : (t : Bool) → ((q == p) && ((j == i) && ((n == b) && (w == x)))) ≡ t → cond t true (has_landed p i b x past) ≡ true → first_offered i b (record { by = by; verb = Verb.PutSlot q j n w; answer = Answer.Done } ∷ past) ≡ Some x
        go false k e = offer_stays i b x (record { by = by; verb = Verb.PutSlot q j n w; answer = Answer.Done }) past (s.own p b x e d)
        go true k e =
            let y = is_put p i b x q j n w k in
            let e1 : (j == i) ≡ true = eq-eqb j i y.position in
            let e2 : (n == b) ≡ true = eq-eqb n b y.number in
            rw (e1, e2) (elim (at b y.position y.number) [
              | inl z ↦ absurd (d (sym y.value ∙ z))
              | inr z ↦ offered_now w (first_offered i b past) (elim z.1.how [ inl o ↦ inl o | inr o ↦ inr o.0 ]) ∙ ap Some y.value
            ])
    own' a p b x m d = offer_stays i b x (record { by = by; verb = Verb.PutSlot q j n w; answer = a }) past (s.own p b x m d)

    safe_offers' : (b v m x : ℕ) → first_offered i b (record { by = by; verb = Verb.PutSlot q j n w; answer = a } ∷ past) ≡ Some v → (v ≡ V → ⊥) → m < b → (v ≡ x → ⊥) → Blocked c i m x (record { by = by; verb = Verb.PutSlot q j n w; answer = a } ∷ past)
    safe_offers' b v m x e dv l d = stays m x (go (first_offered i b past) refl ((j == i) && (n == b)) refl e)
      where
        go : (o : Option ℕ) → first_offered i b past ≡ o → (t : Bool) → ((j == i) && (n == b)) ≡ t → earlier_or (cond t (Some w) None) o ≡ Some v → Blocked c i m x past
        go (Some y) k true ht e' = s.safe_offers b v m x (k ∙ e') dv l d
        go o k false ht e' = s.safe_offers b v m x (k ∙ e') dv l d
        go None k true ht e' =
            let y = and_parts (j == i) (n == b) ht in
            let is : w ≡ v = same_some w v e' in
            elim (at b (eqb-true j i y.0) (eqb-true n b y.1)) [
              | inl z ↦ absurd (dv (sym is ∙ z))
              | inr z ↦ elim z.1.how [ inl o ↦ absurd (let u : None ≡ Some w = sym k ∙ o in cc) | inr o ↦ o.1 m x l (λ u. d (sym is ∙ u)) ]
            ]

pub base_step : (c : Config) (i V B : ℕ) (maj : ℕ → Bool) (by : ℕ) (v : Verb) (past : List Event) → IsLegalHistory c past → Needs c by (part by past) v → Base c i V B maj past
    → ((x : ℕ) → slice_get (known c by (part by past)) i ≡ Some x → x ≡ V) → Base c i V B maj (event_after c past by v ∷ past)
base_step c i V B maj by (Verb.PutSlot q j n w) past h may s kn = base_put c i V B maj by q j n w past h s kn may (put_answer (drained by q past)) refl
base_step c i V B maj by v past h may s kn = record {
  many = s.many;
  took = s.took;
  mine = s.mine;
  offers = s.offers;
  above = s.above;
  own = s.own;
  safe = λ m x l d. blocked_stays c i m x by v past h may (s.safe m x l d);
  safe_offers = λ b u m x e dv l d. blocked_stays c i m x by v past h may (s.safe_offers b u m x e dv l d);
}

-- the moment of the choice
pub base_start : (c : Config) (i V B : ℕ) (past : List Event) → ((p b v : ℕ) → has_landed p i b v past ≡ true → first_offered i b past ≡ Some v) → Safe c i past → Chosen c i B V past
    → Base c i V B (λ p. has_landed p i B V past) past
base_start c i V B past own safe h = record {
  many = h;
  took = λ p l k. k;
  mine = mine;
  offers = offers;
  above = λ p b w l k. offers b w l (own p b w k);
  own = λ p b w k d. own p b w k;
  safe = λ n w l d. safe B V n w mine l (λ e. d (sym e));
  safe_offers = λ b v n w e dv l d. safe b v n w e l d;
}
  where
    mine : first_offered i B past ≡ Some V
    mine = let m = chosen_somewhere c i B V past h in own m.who B V m.passes

    offers : (b w : ℕ) → B ≤ b → first_offered i b past ≡ Some w → w ≡ V
    offers b w l e = elim (cases_eq w V) [
      | inl k ↦ k
      | inr d ↦ elim (cases_order b B) [
        | inl k ↦ same_some w V (sym e ∙ ap (λ z. first_offered i z past) k ∙ (let m = chosen_somewhere c i B V past h in own m.who B V m.passes))
        | inr x ↦ elim x [
          | inl k ↦ absurd (omega arith)
          | inr k ↦ absurd (not_chosen c i B V past (λ p q. own p B V q) (safe b w B V e k d) h)
        ]
      ]
    ]
