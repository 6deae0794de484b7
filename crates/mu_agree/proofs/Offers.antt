-- The first value that a number puts at a position.
use Rattle.std.proofs.Common.{◌≡◌, ℕ, ◌%◌, ◌<◌, ◌≤◌, Bool, true, false, cond, if◌then◌else◌, ◌&&◌, ◌==◌, List, ◌∷◌, refl, sym, ◌∙◌, ap, arith, Some, None, subst, eqb-true}
use Rattle.std.specs.declared.option.Option.{Option}
use Rattle.std.proofs.lemmas.Bool.{and_parts, eqb-false, eq-eqb}
use Rattle.mu_model.specs.declared.config.Config.{Config}
use Rattle.mu_model.specs.declared.event.Event.{Event}
use Rattle.mu_model.specs.declared.event.Verb.{Verb}
use Rattle.mu_model.specs.Allowed.{Needs}
use Rattle.mu_model.specs.Histories.{earlier_or, oldest, part}
use Rattle.mu_model.specs.Leaderships.{is_first_ask, proposal_number}
use Rattle.mu_model.specs.Legal.{IsLegalHistory}
use Rattle.mu_model.specs.Picks.{first_value}
use Rattle.mu_agree.proofs.Legal.{event_after, legal_induction}
use Rattle.mu_agree.proofs.Numbers.{number-part, numbered, greatest_own_put, fresh_by}
use Rattle.mu_agree.proofs.Members.{number_stays}
use Rattle.mu_agree.proofs.Landings.{at_part}
use Rattle.mu_model.proofs.Basics.{same_some}
use Rattle.mu_model.proofs.Putting.{put_facts, min_facts}

abbrev pub slot_value : ℕ → ℕ → Verb → Option ℕ
slot_value i b (Verb.PutSlot p j n w) = if (j == i) && (n == b) then Some w else None
slot_value i b _ = None

-- the first value put at i under the number b
abbrev pub first_offered : ℕ → ℕ → List Event → Option ℕ
first_offered i b past = oldest (λ e. slot_value i b e.verb) past

-- an offer stands for good
pub offer_stays : (i b v : ℕ) (e : Event) (past : List Event) → first_offered i b past ≡ Some v → first_offered i b (e ∷ past) ≡ Some v
offer_stays i b v e past h = go (slot_value i b e.verb)
  where
    keeps : (x : ℕ) (o : Option ℕ) → o ≡ Some v → earlier_or (Some x) o ≡ Some v
    keeps x o k = number_stays x v o k

    go : (o : Option ℕ) → earlier_or o (first_offered i b past) ≡ Some v
    go None = h
    go (Some x) = keeps x (first_offered i b past) h

-- the number that a put carries
pub put_number : (c : Config) (by q j n w : ℕ) (past : List Event) → Needs c by (part by past) (Verb.PutSlot q j n w) → proposal_number by past ≡ Some n
put_number c by q j n w past may = sym (number-part by past) ∙ (put_facts c by (part by past) q j n w may).numbered

abbrev pub OfferBelow : ℕ → ℕ → List Event → Type 0
OfferBelow i b past = (v : ℕ) → first_offered i b past ≡ Some v → b ≤ greatest_own_put (b % 8) past

below_put : (c : Config) (i b by q j n w : ℕ) (past : List Event) → IsLegalHistory c past → Needs c by (part by past) (Verb.PutSlot q j n w) → OfferBelow i b past → (t : Bool) → ((j == i) && (n == b)) ≡ t → OfferBelow i b (event_after c past by (Verb.PutSlot q j n w) ∷ past)
below_put c i b by q j n w past h may s true k = λ v e.
    let k' = numbered c by past h in
    let num = put_number c by q j n w past may in
    let same : n ≡ b = eqb-true n b (and_parts (j == i) (n == b) k).1 in
    let mine : n % 8 ≡ by = k'.own n num in
    let low : n ≤ greatest_own_put by past = k'.put n num in
    subst (λ x. x ≤ greatest_own_put (x % 8) past) same (rw mine low)
below_put c i b by q j n w past h may s false k = rw k s

below_min : (c : Config) (i b by q n : ℕ) (past : List Event) → OfferBelow i b past → (t : Bool) → (by == b % 8) ≡ t → OfferBelow i b (event_after c past by (Verb.PutMin q n) ∷ past)
below_min c i b by q n past s true k = rw k (λ v e. let l = s v e in omega arith)
below_min c i b by q n past s false k = rw k s

below_step : (c : Config) (i b by : ℕ) (v : Verb) (past : List Event) → IsLegalHistory c past → Needs c by (part by past) v → OfferBelow i b past → OfferBelow i b (event_after c past by v ∷ past)
below_step c i b by (Verb.PutSlot q j n w) past h may s = below_put c i b by q j n w past h may s ((j == i) && (n == b)) refl
below_step c i b by (Verb.PutMin q n) past h may s = below_min c i b by q n past s (by == b % 8) refl
below_step c i b by v past h may s = s

pub offer_below : (c : Config) (i b : ℕ) (past : List Event) → IsLegalHistory c past → OfferBelow i b past
offer_below c i b = legal_induction c (OfferBelow i b) (λ v e. cc) (λ past by v h may s. below_step c i b by v past h may.may s)

-- without a number nothing was put
abbrev pub NoFirst : ℕ → ℕ → List Event → Type 0
NoFirst r i J = proposal_number r J ≡ None → first_value r i J ≡ None

never_none : (b : ℕ) (o : Option ℕ) → earlier_or (Some b) o ≡ None → ⊥
never_none b None e = cc
never_none b (Some x) e = cc

no_first_ask : (c : Config) (r i by q : ℕ) (past J : List Event) → NoFirst r i J → (t : Bool) → is_first_ask r by (Verb.Ask q) ≡ t → NoFirst r i (event_after c past by (Verb.Ask q) ∷ J)
no_first_ask c r i by q past J s true h = rw h (λ e. refl)
no_first_ask c r i by q past J s false h = rw h s

no_first_slot : (c : Config) (r i by q j n w : ℕ) (past : List Event) → Needs c by (part by past) (Verb.PutSlot q j n w) → (by == r) ≡ true → NoFirst r i (event_after c past by (Verb.PutSlot q j n w) ∷ part r past)
no_first_slot c r i by q j n w past may hx = λ e. (let k : proposal_number r (part r past) ≡ Some n = subst (λ z. proposal_number z (part z past) ≡ Some n) (eqb-true by r hx) (put_facts c by (part by past) q j n w may).numbered in let l : None ≡ Some n = sym e ∙ k in cc)

no_first_step : (c : Config) (r i by : ℕ) (v : Verb) (past : List Event) → Needs c by (part by past) v → NoFirst r i (part r past) → NoFirst r i (part r (event_after c past by v ∷ past))
no_first_step c r i by (Verb.Ask q) past may s = at_part (NoFirst r i) r (event_after c past by (Verb.Ask q)) past s (λ _. no_first_ask c r i by q past (part r past) s (is_first_ask r by (Verb.Ask q)) refl)
no_first_step c r i by (Verb.PutMin q b) past may s = at_part (NoFirst r i) r (event_after c past by (Verb.PutMin q b)) past s (λ hx. rw hx (λ e. absurd (never_none b (proposal_number r (part r past)) e)))
no_first_step c r i by (Verb.PutSlot q j n w) past may s = at_part (NoFirst r i) r (event_after c past by (Verb.PutSlot q j n w)) past s (λ hx. no_first_slot c r i by q j n w past may hx)
no_first_step c r i by v past may s = at_part (NoFirst r i) r (event_after c past by v) past s (λ _. s)

pub no_first : (c : Config) (r i : ℕ) (past : List Event) → IsLegalHistory c past → NoFirst r i (part r past)
no_first c r i = legal_induction c (λ past. NoFirst r i (part r past)) (λ e. refl) (λ past by v h may s. no_first_step c r i by v past may.may s)

-- what a leadership offered is what it put first
abbrev pub FirstIs : ℕ → ℕ → List Event → List Event → Type 0
FirstIs r i past J = (b : ℕ) → proposal_number r J ≡ Some b → first_offered i b past ≡ first_value r i J

-- a number is of one replica
pub of_one : (c : Config) (r s b : ℕ) (past : List Event) → IsLegalHistory c past → proposal_number r past ≡ Some b → proposal_number s past ≡ Some b → s ≡ r
of_one c r s b past h e f = sym ((numbered c s past h).own b f) ∙ (numbered c r past h).own b e

first_other : (c : Config) (r i by q j n w : ℕ) (past : List Event) → IsLegalHistory c past → Needs c by (part by past) (Verb.PutSlot q j n w) → FirstIs r i past (part r past) → (by == r) ≡ false → FirstIs r i (event_after c past by (Verb.PutSlot q j n w) ∷ past) (part r past)
first_other c r i by q j n w past h may s hx b e = go (j == i) (n == b) refl
  where
    go : (t u : Bool) → (n == b) ≡ u → earlier_or (cond (t && u) (Some w) None) (first_offered i b past) ≡ first_value r i (part r past)
    go true true k = absurd (eqb-false by r hx (of_one c r by b past h (sym (number-part r past) ∙ e) (put_number c by q j n w past may ∙ ap Some (eqb-true n b k))))
    go true false k = s b e
    go false u k = s b e

first_own : (c : Config) (r i by q j n w : ℕ) (past : List Event) → Needs c by (part by past) (Verb.PutSlot q j n w) → FirstIs r i past (part r past) → (by == r) ≡ true → FirstIs r i (event_after c past by (Verb.PutSlot q j n w) ∷ past) (event_after c past by (Verb.PutSlot q j n w) ∷ part r past)
first_own c r i by q j n w past may s hx b e =
    let k : proposal_number r (part r past) ≡ Some n = subst (λ z. proposal_number z (part z past) ≡ Some n) (eqb-true by r hx) (put_facts c by (part by past) q j n w may).numbered in
    let same : n ≡ b = same_some n b (sym k ∙ e) in
    let t : (n == b) ≡ true = eq-eqb n b same in
    rw (hx, t) (go (j == i) (first_offered i b past) (first_value r i (part r past)) (s b e))
  where
    go : (t : Bool) (x y : Option ℕ) → x ≡ y → earlier_or (cond (t && true) (Some w) None) x ≡ earlier_or (cond t (Some w) None) y
    go true x y e = ap (earlier_or (Some w)) e
    go false x y e = e

offer_none : (c : Config) (i b r : ℕ) (past : List Event) (o : Option ℕ) → IsLegalHistory c past → first_offered i b past ≡ o → b % 8 ≡ r → greatest_own_put r past < b → o ≡ None
offer_none c i b r past None h e m l = refl
offer_none c i b r past (Some v) h e m l = absurd (let k = offer_below c i b past h v e in let k' : b ≤ greatest_own_put r past = subst (λ x. b ≤ greatest_own_put x past) m k in omega arith)

first_min : (c : Config) (r i by q b' : ℕ) (past : List Event) → IsLegalHistory c past → Needs c by (part by past) (Verb.PutMin q b') → FirstIs r i past (part r past) → (by == r) ≡ true → FirstIs r i (event_after c past by (Verb.PutMin q b') ∷ past) (event_after c past by (Verb.PutMin q b') ∷ part r past)
first_min c r i by q b' past h may s hx = rw hx (λ b e. go (proposal_number r (part r past)) refl b e)
  where
    go : (o : Option ℕ) → proposal_number r (part r past) ≡ o → (b : ℕ) → earlier_or (Some b') o ≡ Some b → first_offered i b past ≡ first_value r i (part r past)
    go (Some x) k b e = s b (k ∙ e)
    go None k b e =
        let f = fresh_by r by q b' past (min_facts c by (part by past) q b' may) hx (sym (number-part r past) ∙ k) in
        let same : b' ≡ b = same_some b' b e in
        subst (λ z. first_offered i z past ≡ first_value r i (part r past)) same (offer_none c i b' r past (first_offered i b' past) h refl f.1 f.0 ∙ sym (no_first c r i past h k))

first_ask : (c : Config) (r i by q : ℕ) (past J : List Event) → FirstIs r i past J → (t : Bool) → is_first_ask r by (Verb.Ask q) ≡ t → FirstIs r i past (event_after c past by (Verb.Ask q) ∷ J)
first_ask c r i by q past J s true h = rw h (λ b e. cc)
first_ask c r i by q past J s false h = rw h s

-- the part's view if the step is another's needs to know so
pub at_part' : (P : List Event → Type 0) (r : ℕ) (e : Event) (past : List Event) → ((e.by == r) ≡ false → P (part r past)) → ((e.by == r) ≡ true → P (e ∷ part r past)) → P (part r (e ∷ past))
at_part' P r e past a b = go (e.by == r) refl
  where
    go : (t : Bool) → (e.by == r) ≡ t → P (cond t (e ∷ part r past) (part r past))
    go true h = b h
    go false h = a h

first_step : (c : Config) (r i by : ℕ) (v : Verb) (past : List Event) → IsLegalHistory c past → Needs c by (part by past) v → FirstIs r i past (part r past) → FirstIs r i (event_after c past by v ∷ past) (part r (event_after c past by v ∷ past))
first_step c r i by (Verb.Ask q) past h may s = at_part (FirstIs r i past) r (event_after c past by (Verb.Ask q)) past s (λ _. first_ask c r i by q past (part r past) s (is_first_ask r by (Verb.Ask q)) refl)
first_step c r i by (Verb.PutMin q b) past h may s = at_part (FirstIs r i past) r (event_after c past by (Verb.PutMin q b)) past s (λ hx. first_min c r i by q b past h may s hx)
first_step c r i by (Verb.PutSlot q j n w) past h may s = at_part' (FirstIs r i (event_after c past by (Verb.PutSlot q j n w) ∷ past)) r (event_after c past by (Verb.PutSlot q j n w)) past (λ hx. first_other c r i by q j n w past h may s hx) (λ hx. first_own c r i by q j n w past may s hx)
first_step c r i by v past h may s = at_part (FirstIs r i past) r (event_after c past by v) past s (λ _. s)

pub first_is : (c : Config) (r i : ℕ) (past : List Event) → IsLegalHistory c past → FirstIs r i past (part r past)
first_is c r i = legal_induction c (λ past. FirstIs r i past (part r past)) (λ b e. cc) (λ past by v h may s. first_step c r i by v past h may.may s)
