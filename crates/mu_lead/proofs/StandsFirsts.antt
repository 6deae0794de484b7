-- What stands at each place lasts along the listing until its number is put.
use Rattle.std.proofs.Common.{◌≡◌, ℕ, ◌+◌, ◌<◌, inl, inr, Bool, true, false, List, ◌∷◌, [], None, Some, is_some, refl, sym, ◌∙◌, subst, arith, true≢false}
use Rattle.std.specs.Prelude.{if◌then◌else◌, nat_lt}
use Rattle.std.specs.declared.option.Option.{Option}
use Rattle.std.proofs.lemmas.Bool.{ltb-true}
use Rattle.mu_model.specs.declared.config.Config.{Config}
use Rattle.mu_model.specs.declared.event.Answer.{Answer}
use Rattle.mu_model.specs.declared.event.Event.{Event}
use Rattle.mu_model.specs.declared.event.Target.{Target}
use Rattle.mu_model.specs.declared.event.Verb.{Verb}
use Rattle.mu_model.specs.Contents.{IsConfig}
use Rattle.mu_model.specs.Diligence.{is_confirmed}
use Rattle.mu_model.specs.Entering.{number_allowed}
use Rattle.mu_model.specs.Leaderships.{is_member, noted_grant}
use Rattle.mu_model.specs.Parts.{IsPossible}
use Rattle.mu_model.proofs.Basics.{same_number}
use Rattle.mu_model.specs.Histories.{event_by}
use Rattle.mu_lead.specs.declared.place.Place.{Place}
use Rattle.mu_lead.specs.Confirming.{AtAsk, AtPutMin, AtReadMin, Fresh}
use Rattle.mu_lead.specs.Lasting.{step_of}
use Rattle.mu_lead.specs.Listing.{Tables, after_round, member_from, next_place, noted_from, or_else, or_own}
use Rattle.mu_knowledge.specs.Offers.{IsFirst}
use Rattle.mu_lead.specs.Standing.{At, NumberAfter}
use Rattle.mu_lead.proofs.Asking.{asked_all, asked_on, first_to_read, fresh_fenced}
use Rattle.mu_lead.proofs.Majorities.{is_majority}
use Rattle.mu_knowledge.proofs.Firsts.{first_in_is}
use Rattle.mu_lead.proofs.Numbering.{enters_first, joins_all, joins_next, landed_min, member_now, numbered_now, puts_now, reads_first, reads_next, told_all}
use Rattle.mu_lead.proofs.Replies.{enters_or, puts_min_or, sees_fence, tells_min}
use Rattle.mu_lead.proofs.FirstPlaces.{is_first_place}

-- the regions are asked anew
asks_anew : (c : Config) (r : ℕ) (b : ℕ) (now : List Event) (up : List ℕ) (reach : List (Option ℕ)) (written : List ℕ) → r < c.replicas → At c r b now up reach written (Place.Ask 0)
asks_anew c r b now up reach written inside = record { region = omega (arith, inside); asked = inl refl }

pub round_stands : (c : Config) (r b round : ℕ) (now : List Event) (t : Tables) → r < c.replicas → round < 16 → Fresh r now → At c r b now t.up t.reach t.written (after_round c r now round)
round_stands c r b round now t inside low fresh = go (is_confirmed c r now) refl
  where
    reads : is_confirmed c r now ≡ true → (o : Option ℕ) → IsFirst (λ k. is_some (noted_grant r k now)) 0 c.replicas o → At c r b now t.up t.reach t.written (or_else o Place.ReadMin Place.Rest)
    reads confirmed (Some q) first = first_to_read c r q now fresh (is_majority c r now confirmed) first
    reads confirmed None none = absurd (true≢false (sym (is_majority c r now confirmed).own ∙ none r (omega arith) inside))

    again : (x : Bool) → nat_lt round 15 ≡ x → At c r b now t.up t.reach t.written (if x then Place.Confirm (round + 1) 0 else Place.Ask 0)
    again true more = (let less = ltb-true round 15 more in (omega (arith, less), record { region = omega (arith, inside); fresh = fresh }))
    again false last = asks_anew c r b now t.up t.reach t.written inside

    go : (x : Bool) → is_confirmed c r now ≡ x → At c r b now t.up t.reach t.written (if x then or_else (noted_from c r now 0) Place.ReadMin Place.Rest else (if nat_lt round 15 then Place.Confirm (round + 1) 0 else Place.Ask 0))
    go true confirmed = reads confirmed (noted_from c r now 0) (first_in_is (λ k. is_some (noted_grant r k now)) 0 c.replicas)
    go false unconfirmed = again (nat_lt round 15) refl

-- the next region is asked, or the fences are read
pub asks_stand : (c : Config) (r b p : ℕ) (a : Answer) (mine : List Event) (up : List ℕ) (reach : List (Option ℕ)) (written : List ℕ) (place : Place) → place ≡ (if nat_lt (p + 1) c.replicas then Place.Ask (p + 1) else Place.Confirm 0 0) → AtAsk c r mine p → At c r b (event_by r (Verb.Ask p) a ∷ mine) up reach written place
asks_stand c r b p a mine up reach written place is at = subst (At c r b (event_by r (Verb.Ask p) a ∷ mine) up reach written) (sym is) (go (nat_lt (p + 1) c.replicas) refl)
  where
    go : (x : Bool) → nat_lt (p + 1) c.replicas ≡ x → At c r b (event_by r (Verb.Ask p) a ∷ mine) up reach written (if x then Place.Ask (p + 1) else Place.Confirm 0 0)
    go true more = asked_on c r p (p + 1) a mine at refl (ltb-true (p + 1) c.replicas more)
    go false last = (omega arith, asked_all c r p a mine at)

min_stands : (c : Config) (r b p x : ℕ) (mine : List Event) (t : Tables) (o f : Option ℕ) → r < c.replicas → AtReadMin c r mine p → (o ≡ None → number_allowed r (event_by r (Verb.Min p) (Answer.Number x) ∷ mine) b None) → IsFirst (λ k. is_some (noted_grant r k mine)) (p + 1) c.replicas o
    → IsFirst (λ k. is_some (noted_grant r k mine)) 0 c.replicas f → At c r b (event_by r (Verb.Min p) (Answer.Number x) ∷ mine) t.up t.reach t.written (or_else o Place.ReadMin (or_else f Place.EnterMin Place.Rest))
min_stands c r b p x mine t (Some q) f inside at number next first = reads_next c r p q (p + 1) x mine at refl next
min_stands c r b p x mine t None (Some q) inside at number next first =
    let telling = told_all c r p (p + 1) x mine at refl next in
    enters_first c r b q (event_by r (Verb.Min p) (Answer.Number x) ∷ mine) telling (numbered_now c r b (event_by r (Verb.Min p) (Answer.Number x) ∷ mine) telling (number refl)) first
min_stands c r b p x mine t None None inside at number next none = absurd (true≢false (sym at.telling.confirmed.own ∙ none r (omega arith) inside))

join_stands : (c : Config) (r b p : ℕ) (mine : List Event) (t : Tables) (o f : Option ℕ) → r < c.replicas → AtPutMin c r b mine p → IsFirst (λ k. is_some (noted_grant r k mine)) (p + 1) c.replicas o → IsFirst (λ k. is_member r k (landed_min r p b ∷ mine)) 0 c.replicas f
    → At c r b (landed_min r p b ∷ mine) t.up t.reach t.written (or_else o Place.EnterMin (Place.ReadFuo (or_own r f) None))
join_stands c r b p mine t (Some q) f inside at next first = joins_next c r b p q (p + 1) mine at refl next
join_stands c r b p mine t None (Some q) inside at next first = reads_first c r b q (landed_min r p b ∷ mine) t.up t.reach (joins_all c r b p (p + 1) mine inside at refl next) at.entering.numbered.unput first
join_stands c r b p mine t None None inside at next none = absurd (true≢false (sym (member_now r p b mine) ∙ none p (omega arith) at.entering.region))

pub stands_last : (c : Config) (r b d : ℕ) (mine : List Event) (up : List ℕ) (reach : List (Option ℕ)) (written : List ℕ) (t : Tables) (place : Place) (a : Answer) → is_first_place place ≡ true → IsConfig c → r < c.replicas → At c r b mine up reach written place
    → IsPossible c r (step_of c r b mine up written place a ∷ mine) → NumberAfter c r b d (step_of c r b mine up written place a ∷ mine) place
    → At c r d (step_of c r b mine up written place a ∷ mine) t.up t.reach t.written (next_place c r b (step_of c r b mine up written place a ∷ mine) t a place)
stands_last c r b d mine up reach written t (Place.Ask p) a one is inside at possible number = asks_stand c r d p a mine t.up t.reach t.written (next_place c r b (event_by r (Verb.Ask p) a ∷ mine) t a (Place.Ask p)) refl at
stands_last c r b d mine up reach written t (Place.Confirm round p) a one is inside at possible number =
    let seen = sees_fence c r p a mine possible in
    go (nat_lt (p + 1) c.replicas) refl (subst (λ y. Fresh r (event_by r (Verb.Fence p) y ∷ mine)) (sym seen.1) (fresh_fenced r p seen.0 mine at.1.fresh))
  where
    go : (x : Bool) → nat_lt (p + 1) c.replicas ≡ x → Fresh r (event_by r (Verb.Fence p) a ∷ mine) → At c r d (event_by r (Verb.Fence p) a ∷ mine) t.up t.reach t.written (if x then Place.Confirm round (p + 1) else after_round c r (event_by r (Verb.Fence p) a ∷ mine) round)
    go true more fresh = (at.0, record { region = ltb-true (p + 1) c.replicas more; fresh = fresh })
    go false last fresh = round_stands c r d round (event_by r (Verb.Fence p) a ∷ mine) t inside at.0 fresh
stands_last c r b d mine up reach written t (Place.ReadMin p) a one is inside at possible number =
    let told = tells_min c r p a mine possible in
    let test = λ (k : ℕ). is_some (noted_grant r k mine) in
    subst (λ y. (noted_from c r (event_by r (Verb.Min p) y ∷ mine) (p + 1) ≡ None → number_allowed r (event_by r (Verb.Min p) y ∷ mine) d None) → At c r d (event_by r (Verb.Min p) y ∷ mine) t.up t.reach t.written (next_place c r b (event_by r (Verb.Min p) y ∷ mine) t y (Place.ReadMin p))) (sym told.1)
    (λ allowed. min_stands c r d p told.0 mine t (noted_from c r (event_by r (Verb.Min p) (Answer.Number told.0) ∷ mine) (p + 1)) (noted_from c r (event_by r (Verb.Min p) (Answer.Number told.0) ∷ mine) 0) inside at allowed (first_in_is test (p + 1) c.replicas) (first_in_is test 0 c.replicas)) number
stands_last c r b d mine up reach written t (Place.EnterMin p) a one is inside at possible number =
    let goal = λ (y : Answer). At c r d (event_by r (Verb.Enter p Target.Min) y ∷ mine) t.up t.reach t.written (next_place c r b (event_by r (Verb.Enter p Target.Min) y ∷ mine) t y (Place.EnterMin p)) in
    elim (enters_or c r p Target.Min a mine possible) [
      | inl entered ↦ subst goal (sym entered) (subst (λ n. At c r n (event_by r (Verb.Enter p Target.Min) Answer.Entered ∷ mine) t.up t.reach t.written (Place.PutMin p)) (sym number) (puts_now c r b p mine at))
      | inr lost ↦ subst goal (sym lost.1) (asks_anew c r d (event_by r (Verb.Enter p Target.Min) (Answer.Lost lost.0) ∷ mine) t.up t.reach t.written inside)
    ]
stands_last c r b d mine up reach written t (Place.PutMin p) a one is inside at possible number =
    let now = λ (y : Answer). event_by r (Verb.PutMin p b) y ∷ mine in
    let goal = λ (y : Answer). At c r d (now y) t.up t.reach t.written (next_place c r b (now y) t y (Place.PutMin p)) in
    elim (puts_min_or c r p b a mine possible) [
      | inl done ↦ subst goal (sym done) (subst (λ n. At c r n (now Answer.Done) t.up t.reach t.written (next_place c r b (now Answer.Done) t Answer.Done (Place.PutMin p))) (sym number)
          (join_stands c r b p mine t (noted_from c r (now Answer.Done) (p + 1)) (member_from c r (now Answer.Done) 0) inside at (first_in_is (λ k. is_some (noted_grant r k mine)) (p + 1) c.replicas) (first_in_is (λ k. is_member r k (now Answer.Done)) 0 c.replicas)))
      | inr missed ↦ subst goal (sym missed) (record { region = at.entering.region; begun = at.entering.numbered.begun; missed = record { since = []; put = event_by r (Verb.PutMin p b) Answer.Missed; before = mine; is = refl; missed = same_number p; under = at.under } })
    ]
stands_last c r b d mine up reach written t (Place.Evidence p) a one is inside at possible number = asks_anew c r d (event_by r (Verb.Fence p) a ∷ mine) t.up t.reach t.written inside
stands_last c r b d mine up reach written t place a one is inside at possible number = absurd (true≢false (sym one))
