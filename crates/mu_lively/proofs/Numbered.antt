-- A replica that names itself puts its number soon after its first minimum.
use Rattle.std.proofs.Common.{◌≡◌, ◌∙◌, ℕ, suc, zero, ◌+◌, ◌<◌, ◌≤◌, ◌||◌, ◌⊎◌, inl, inr, Bool, true, false, cond, None, Some, List, [], ◌∷◌, ◌++◌, ap, arith, length, refl, subst, sym}
use Rattle.std.specs.declared.option.Option.{Option}
use Rattle.std.specs.Prelude.{if◌then◌else◌, is_some}
use Rattle.std.proofs.lemmas.Bool.{eq-eqb, true≢false}
use Rattle.mu_agree.specs.Possible.{CameBy}
use Rattle.mu_agree.proofs.Landings.{has_more}
use Rattle.mu_agree.proofs.Possible.{parts_shorten_law}
use Rattle.mu_model.specs.declared.config.Config.{Config}
use Rattle.mu_model.specs.declared.event.Answer.{Answer}
use Rattle.mu_model.specs.declared.event.Event.{Event}
use Rattle.mu_model.specs.declared.event.Target.{Target}
use Rattle.mu_model.specs.declared.event.Verb.{Verb}
use Rattle.mu_model.specs.Allowed.{Needs}
use Rattle.mu_model.specs.Histories.{has}
use Rattle.mu_model.specs.Leaderships.{begins_leadership, is_first_ask, is_over, noted_grant, number_put}
use Rattle.mu_model.specs.Parts.{IsPossible}
use Rattle.mu_model.specs.Steps.{has_min, is_min, is_min_verb, is_named}
use Rattle.mu_model.specs.Stretches.{is_odd, replications}
use Rattle.mu_model.proofs.Basics.{same_some}
use Rattle.mu_knowledge.specs.Offers.{IsFirst}
use Rattle.mu_knowledge.proofs.Firsts.{first_in_is}
use Rattle.mu_lead.specs.declared.place.Place.{Place}
use Rattle.mu_lead.specs.Journal.{number_due, place_after}
use Rattle.mu_lead.specs.Listing.{is_lost, noted_from, or_else}
use Rattle.mu_agree.specs.Moments.{AtEachMoment, AtEachStep}
use Rattle.mu_pace.proofs.Counting.{last_moment}
use Rattle.mu_pace.specs.Watches.{puts_number}
use Rattle.mu_pace.proofs.Pasts.{min_on, min_now}
use Rattle.mu_lively.proofs.Asked.{MadePlain, OfLead, Opens, any_asks_fail, asks_all_first, begun_asked, each_made, first_noted, follows, is_any_ask, made_verb, mins_fail, of_lead, opened, place_of, place_on, place_still, placed, placed_before}

-- within d steps the number is put
abbrev ToPut : Config → ℕ → Place → Type 0
ToPut c d (Place.ReadMin q) = (q < c.replicas) × (c.replicas + 2 ≤ q + d)
ToPut c d (Place.EnterMin q) = 2 ≤ d
ToPut c d (Place.PutMin q) = 1 ≤ d
ToPut c d place = ⊥

-- the grant of a region whose minimum it read is noted
still_noted : (c : Config) (r q : ℕ) (mine : List Event) (e : Event) → e.verb ≡ Verb.Min q → Needs c r mine e.verb → (q < c.replicas) × (is_some (noted_grant r q (e ∷ mine)) ≡ true)
still_noted c r q mine e is needs = go e.by e.verb e.answer is needs
  where
    go : (by : ℕ) (verb : Verb) (answer : Answer) → verb ≡ Verb.Min q → Needs c r mine verb → (q < c.replicas) × (is_some (noted_grant r q (record { by = by; verb = verb; answer = answer } ∷ mine)) ≡ true)
    go by verb answer is needs = let n = subst (Needs c r mine) is needs in (n.0, subst (λ v. is_some (noted_grant r q (record { by = by; verb = v; answer = answer } ∷ mine)) ≡ true) (sym is) n.1.0)

after_min : (c : Config) (r d q : ℕ) (mine : List Event) (e : Event) → e.verb ≡ Verb.Min q → Needs c r mine e.verb → c.replicas + 2 ≤ q + 1 + d → 2 ≤ d → ToPut c d (follows c r mine e (Place.ReadMin q))
after_min c r d q mine e is needs near two = go (noted_from c r (e ∷ mine) (q + 1)) (first_in_is (λ p. is_some (noted_grant r p (e ∷ mine))) (q + 1) c.replicas)
  where
    noted : (q < c.replicas) × (is_some (noted_grant r q (e ∷ mine)) ≡ true)
    noted = still_noted c r q mine e is needs

    go : (o : Option ℕ) → IsFirst (λ p. is_some (noted_grant r p (e ∷ mine))) (q + 1) c.replicas o → ToPut c d (or_else o Place.ReadMin (or_else (noted_from c r (e ∷ mine) 0) Place.EnterMin Place.Rest))
    go (Some p) first = let l = first.0 in (first.1, omega (arith, near, l))
    go None none = first_noted c r 0 q (e ∷ mine) (ToPut c d) Place.EnterMin Place.Rest (omega arith) noted.0 noted.1 (λ _ _ _. two)

-- who loses an entering is over
lost_over : (r q : ℕ) (t : Target) (by : ℕ) (answer : Answer) (mine : List Event) → by ≡ r → is_lost answer ≡ true → is_over r (record { by = by; verb = Verb.Enter q t; answer = answer } ∷ mine) ≡ true
lost_over r q t by (Answer.Lost f) mine own is = ap (λ t. t || is_over r mine) (eq-eqb by r own)
lost_over r q t by answer mine own is = absurd (true≢false (sym is))

-- each step of a replica that names itself takes one, unless it puts the number
nearer_put : (c : Config) (r d : ℕ) (mine : List Event) (e : Event) (place : Place) → e.by ≡ r → ((verb : Verb) → placed c r mine place ≡ Some verb → e.verb ≡ verb) → Needs c r mine e.verb → is_over r (e ∷ mine) ≡ false → ToPut c (suc d) place → (puts_number r e ≡ true) ⊎ ToPut c d (follows c r mine e place)
nearer_put c r d mine e (Place.ReadMin q) own verb needs on near = inr (let l = near.0 in let k = near.1 in after_min c r d q mine e (verb (Verb.Min q) refl) needs (omega (arith, k)) (omega (arith, k, l)))
nearer_put c r d mine e (Place.EnterMin q) own verb needs on near = go (is_lost e.answer) refl
  where
    go : (t : Bool) → is_lost e.answer ≡ t → (puts_number r e ≡ true) ⊎ ToPut c d (if t then Place.Ask 0 else Place.PutMin q)
    go true lost = absurd (true≢false (sym (subst (λ v. is_over r (record { by = e.by; verb = v; answer = e.answer } ∷ mine) ≡ true) (sym (verb (Verb.Enter q Target.Min) refl)) (lost_over r q Target.Min e.by e.answer mine own lost)) ∙ on))
    go false entered = inr (omega (arith, near))
nearer_put c r d mine e (Place.PutMin q) own verb needs on near = inl (ap (λ v. is_some (number_put r e.by v)) (verb (Verb.PutMin q (number_due r mine)) refl) ∙ ap (λ t. is_some (if t then Some (number_due r mine) else None)) (eq-eqb e.by r own))
nearer_put c r d mine e place own verb needs on near = absurd near

-- and begins no leadership
asks_no_more : (c : Config) (r d : ℕ) (mine : List Event) (e : Event) → MadePlain c r mine e → ToPut c d (place_after c r mine) → begins_leadership r e ≡ false
asks_no_more c r d mine e held near = go (begins_leadership r e) refl
  where
    any : (by : ℕ) (verb : Verb) → is_first_ask r by verb ≡ true → is_any_ask verb ≡ true
    any by (Verb.Ask q) is = refl
    any by verb is = absurd (true≢false (sym is))

    due_ask : Option Verb → Bool
    due_ask None = false
    due_ask (Some verb) = is_any_ask verb

    none : (place : Place) → ToPut c d place → due_ask (placed c r mine place) ≡ false
    none (Place.ReadMin q) near = refl
    none (Place.EnterMin q) near = refl
    none (Place.PutMin q) near = refl
    none place near = absurd near

    go : (t : Bool) → begins_leadership r e ≡ t → t ≡ false
    go false is = refl
    go true is =
        let ask = any e.by e.verb is in
        let turn = of_lead is_any_ask c r mine e held.0 any_asks_fail (λ j k x. refl) refl (λ q. refl) (λ w. refl) ask in
        absurd (true≢false (sym (ap due_ask turn.verb ∙ ask) ∙ none (place_of c r mine e) (subst (ToPut c d) (sym (placed_before c r mine e held turn.odd turn.named)) near)))

-- so it is on its way to put its number after its first minimum
record OnWay (c : Config) (r : ℕ) (window older : List Event) : Type 0 where
  left : ℕ
  near : ToPut c left (place_after c r (window ++ older))
  all : left + replications window older ≡ c.replicas + 1
  min : has_min r (window ++ older) ≡ true

to_put : (c : Config) (r : ℕ) (e : Event) (window older : List Event) → r < c.replicas → IsPossible c r (window ++ e ∷ older) → AtEachStep (MadePlain c r) (window ++ e ∷ older) → is_min e ≡ true → AtEachMoment (λ now. has_min r now ≡ false) older → AtEachMoment (λ now. is_over r now ≡ false) (window ++ e ∷ older)
    → AtEachMoment (λ now. has_min r now ≡ true → is_named c r now ≡ true) (window ++ e ∷ older) → (has (puts_number r) window ≡ true) ⊎ OnWay c r window (e ∷ older)
to_put c r e [] older inside possible made min none on named = inr (record { left = c.replicas + 1; near = near; all = omega arith; min = there })
  where
    turn : OfLead c r older e made.1.0
    turn = of_lead is_min_verb c r older e made.1.0 mins_fail (λ j k x. refl) refl (λ q. refl) (λ w. refl) min

    there : has_min r (e ∷ older) ≡ true
    there = let all = each_made c r (e ∷ older) made in min_now r e older min (begun_asked c r older all.0 (asks_all_first c r older e inside all none min 0 (omega (arith, inside))))

    due_min : Option Verb → Bool
    due_min None = false
    due_min (Some verb) = is_min_verb verb

    go : (place : Place) → placed c r older place ≡ Some e.verb → due_min (placed c r older place) ≡ true → Opens c older place → ToPut c (c.replicas + 1) (follows c r older e place)
    go (Place.ReadMin q) is due o = after_min c r (c.replicas + 1) q older e (same_some e.verb (Verb.Min q) (sym is)) (parts_shorten_law c r older e possible).allowed.may (omega arith) (omega (arith, inside))
    go (Place.Ask q) is due o = absurd (true≢false (sym due))
    go (Place.Confirm k q) is due o = absurd (true≢false (sym due))
    go place is due o = absurd o

    near : ToPut c (c.replicas + 1) (place_after c r (e ∷ older))
    near = subst (ToPut c (c.replicas + 1)) (sym (place_on c r older e turn.odd turn.named)) (go (place_of c r older e) turn.verb (ap due_min turn.verb ∙ min) (opened c r older e inside (each_made c r older made.0) none))
to_put c r e (f ∷ window) older inside possible made min none on named = elim (to_put c r e window older inside came.before made.0 min none on.0 named.0) [
  | inl some ↦ inl (has_more (puts_number r) f window some)
  | inr k ↦ step k k.left k.near k.all (is_odd (length mine)) refl
]
  where
    mine : List Event
    mine = window ++ e ∷ older

    came : CameBy c r mine f
    came = parts_shorten_law c r mine f possible

    never : (place : Place) → ToPut c 0 place → ⊥
    never (Place.ReadMin q) near = let l = near.0 in let k = near.1 in omega (arith, l, k)
    never (Place.EnterMin q) near = omega (arith, near)
    never (Place.PutMin q) near = omega (arith, near)
    never place near = near

    step : (k : OnWay c r window (e ∷ older)) (d : ℕ) → ToPut c d (place_after c r mine) → d + replications window (e ∷ older) ≡ c.replicas + 1 → (t : Bool) → is_odd (length mine) ≡ t → (has (puts_number r) (f ∷ window) ≡ true) ⊎ OnWay c r (f ∷ window) (e ∷ older)
    step k d near all false even =
        inr (record {
          left = d;
          near = subst (ToPut c d) (sym (place_still c r mine f even)) near;
          all = ap (λ t. d + (if t then replications window (e ∷ older) + 1 else replications window (e ∷ older))) even ∙ all;
          min = min_on r f mine (asks_no_more c r d mine f made.1 near) k.min;
        })
    step k zero near all true odd = absurd (never (place_after c r mine) near)
    step k (suc d) near all true odd =
        let itself = last_moment (λ now. has_min r now ≡ true → is_named c r now ≡ true) mine named.0 k.min in
        elim (nearer_put c r d mine f (place_of c r mine f) made.1.0.own (λ verb is. made_verb c r mine f verb made.1.0 odd itself is) came.allowed.may on.1 (subst (ToPut c (suc d)) (sym (placed_before c r mine f made.1 odd itself)) near)) [
          | inl put ↦ inl (ap (λ t. cond t true (has (puts_number r) window)) put)
          | inr on_way ↦ inr (record {
            left = d;
            near = subst (ToPut c d) (sym (place_on c r mine f odd itself)) on_way;
            all = ap (λ t. d + (if t then replications window (e ∷ older) + 1 else replications window (e ∷ older))) odd ∙ (let one : d + (replications window (e ∷ older) + 1) ≡ c.replicas + 1 = omega (arith, all) in one);
            min = min_on r f mine (asks_no_more c r (suc d) mine f made.1 near) k.min;
          })
        ]

-- n + 2 replication events after its first minimum it has put a number, if it goes on naming itself and isn't over
pub numbers_in_time : (c : Config) (r : ℕ) (e : Event) (window older : List Event) → r < c.replicas → IsPossible c r (window ++ e ∷ older) → AtEachStep (MadePlain c r) (window ++ e ∷ older) → is_min e ≡ true → AtEachMoment (λ now. has_min r now ≡ false) older → AtEachMoment (λ now. is_over r now ≡ false) (window ++ e ∷ older)
    → AtEachMoment (λ now. has_min r now ≡ true → is_named c r now ≡ true) (window ++ e ∷ older) → c.replicas + 2 ≤ replications window (e ∷ older) → has (puts_number r) window ≡ true
numbers_in_time c r e window older inside possible made min none on named long = elim (to_put c r e window older inside possible made min none on named) [
  | inl some ↦ some
  | inr k ↦ absurd (let all = k.all in omega (arith, all, long))
]
