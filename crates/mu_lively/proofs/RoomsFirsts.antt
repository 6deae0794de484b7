-- The counts of a leader last along the listing until its number is put.
use Rattle.mu_lead.proofs.FirstPlaces.{is_first_place}
use Rattle.std.proofs.Common.{◌≡◌, ℕ, ◌+◌, ◌<◌, inl, inr, Bool, true, false, List, ◌∷◌, None, Some, is_some, refl, sym, ◌∙◌, subst, arith, true≢false}
use Rattle.std.specs.Prelude.{if◌then◌else◌, nat_lt}
use Rattle.std.specs.declared.option.Option.{Option}
use Rattle.std.proofs.lemmas.Bool.{and_parts, cases_eq}
use Rattle.mu_model.specs.declared.config.Config.{Config}
use Rattle.mu_model.specs.declared.event.Answer.{Answer}
use Rattle.mu_model.specs.declared.event.Event.{Event}
use Rattle.mu_model.specs.declared.event.Target.{Target}
use Rattle.mu_model.specs.declared.event.Verb.{Verb}
use Rattle.mu_model.specs.Contents.{IsConfig}
use Rattle.mu_model.specs.Diligence.{is_confirmed}
use Rattle.mu_model.specs.Leaderships.{noted_grant}
use Rattle.mu_model.specs.Parts.{IsPossible}
use Rattle.mu_model.specs.Stretches.{is_replication}
use Rattle.mu_model.specs.Histories.{event_by}
use Rattle.mu_pace.specs.Weights.{Stage}
use Rattle.mu_lead.specs.declared.place.Place.{Place}
use Rattle.mu_lead.specs.Confirming.{AtReadMin}
use Rattle.mu_lead.specs.Lasting.{step_of}
use Rattle.mu_lead.specs.Listing.{Tables, after_round, first_member, next_place, noted_from, or_else}
use Rattle.mu_lively.specs.Rooms.{IsNumbering, IsReading, IsWaiting, RoomsAt}
use Rattle.mu_knowledge.specs.Offers.{IsFirst}
use Rattle.mu_lead.specs.Standing.{At}
use Rattle.mu_knowledge.proofs.Firsts.{first_in_is}
use Rattle.mu_lead.proofs.Replies.{enters_or, puts_min_or, sees_fence}
use Rattle.mu_lively.proofs.RoomsAsking.{begins_reading, out_again, rooms_ask, rooms_fence, rooms_first_ask}
use Rattle.mu_lively.proofs.RoomsMin.{rooms_entered, rooms_evidence, rooms_last_join, rooms_last_min, rooms_lost, rooms_missed_min, rooms_next_join, rooms_next_min}

-- after a round
round_rooms : (c : Config) (r round : ℕ) (now : List Event) (written : List ℕ) → r < c.replicas → IsWaiting c r now → RoomsAt c r now written (after_round c r now round)
round_rooms c r round now written inside waiting = go (is_confirmed c r now) refl
  where
    reads : is_confirmed c r now ≡ true → (o : Option ℕ) → IsFirst (λ k. is_some (noted_grant r k now)) 0 c.replicas o → RoomsAt c r now written (or_else o Place.ReadMin Place.Rest)
    reads confirmed (Some q) first = begins_reading c r q now written waiting
    reads confirmed None none = absurd (true≢false (sym (and_parts (is_some (noted_grant r r now)) _ confirmed).0 ∙ none r (omega arith) inside))

    again : (x : Bool) → RoomsAt c r now written (if x then Place.Confirm (round + 1) 0 else Place.Ask 0)
    again true = waiting
    again false = out_again c r 0 now waiting

    go : (x : Bool) → is_confirmed c r now ≡ x → RoomsAt c r now written (if x then or_else (noted_from c r now 0) Place.ReadMin Place.Rest else (if nat_lt round 15 then Place.Confirm (round + 1) 0 else Place.Ask 0))
    go true confirmed = reads confirmed (noted_from c r now 0) (first_in_is (λ k. is_some (noted_grant r k now)) 0 c.replicas)
    go false unconfirmed = again (nat_lt round 15)

-- after a minimum
min_rooms : (c : Config) (r p : ℕ) (a : Answer) (mine : List Event) (written : List ℕ) (o f : Option ℕ) → IsConfig c → r < c.replicas → is_replication mine (event_by r (Verb.Min p) a) ≡ true → AtReadMin c r mine p → IsFirst (λ k. is_some (noted_grant r k mine)) (p + 1) c.replicas o
    → IsFirst (λ k. is_some (noted_grant r k mine)) 0 c.replicas f → IsReading c r mine written p → RoomsAt c r (event_by r (Verb.Min p) a ∷ mine) written (or_else o Place.ReadMin (or_else f Place.EnterMin Place.Rest))
min_rooms c r p a mine written (Some q) f is inside turn at next first rooms = rooms_next_min c r p q a mine written is turn at.telling.fresh.begun (let low = next.0 in omega (arith, low)) next.1 rooms
min_rooms c r p a mine written None (Some q) is inside turn at next first rooms = record { left = λ k from. at.telling.fresh.alone k; led = rooms_last_min c r p a mine written is turn at.telling.fresh.begun at.region rooms }
min_rooms c r p a mine written None None is inside turn at next none rooms = absurd (true≢false (sym at.telling.confirmed.own ∙ none r (omega arith) inside))

-- after the number was put at p
join_rooms : (c : Config) (r b p q : ℕ) (mine : List Event) (written : List ℕ) (o : Option ℕ) → IsConfig c → is_replication mine (event_by r (Verb.PutMin p b) Answer.Done) ≡ true → p < c.replicas → IsFirst (λ k. is_some (noted_grant r k mine)) (p + 1) c.replicas o
    → IsNumbering c r mine p Stage.PutMin → RoomsAt c r (event_by r (Verb.PutMin p b) Answer.Done ∷ mine) written (or_else o Place.EnterMin (Place.ReadFuo q None))
join_rooms c r b p q mine written (Some k) is turn region next rooms = rooms_next_join c r p k b mine is turn region (let low = next.0 in omega (arith, low)) rooms
join_rooms c r b p q mine written None is turn region none rooms = rooms_last_join c r p q b mine written is turn region rooms

pub rooms_last : (c : Config) (r b : ℕ) (mine : List Event) (up : List ℕ) (reach : List (Option ℕ)) (written : List ℕ) (t : Tables) (place : Place) (a : Answer) → is_first_place place ≡ true → IsConfig c → r < c.replicas → At c r b mine up reach written place
    → IsPossible c r (step_of c r b mine up written place a ∷ mine) → is_replication mine (step_of c r b mine up written place a) ≡ true → RoomsAt c r mine written place
    → RoomsAt c r (step_of c r b mine up written place a ∷ mine) written (next_place c r b (step_of c r b mine up written place a ∷ mine) t a place)
rooms_last c r b mine up reach written t (Place.Ask p) a one is inside at possible turn rooms = go (nat_lt (p + 1) c.replicas) (elim (cases_eq p 0) [
  | inl zero ↦ rooms_first_ask c r p a mine zero
  | inr other ↦ rooms_ask c r p a mine other turn (rooms.1 other)
])
  where
    go : (x : Bool) → IsWaiting c r (event_by r (Verb.Ask p) a ∷ mine) → RoomsAt c r (event_by r (Verb.Ask p) a ∷ mine) written (if x then Place.Ask (p + 1) else Place.Confirm 0 0)
    go true waiting = ((λ zero. absurd (omega (arith, zero))), λ other. waiting)
    go false waiting = waiting
rooms_last c r b mine up reach written t (Place.Confirm round p) a one is inside at possible turn rooms =
    let seen = sees_fence c r p a mine possible in
    go (nat_lt (p + 1) c.replicas) (subst (λ y. IsWaiting c r (event_by r (Verb.Fence p) y ∷ mine)) (sym seen.1) (rooms_fence c r p seen.0 mine turn rooms))
  where
    go : (x : Bool) → IsWaiting c r (event_by r (Verb.Fence p) a ∷ mine) → RoomsAt c r (event_by r (Verb.Fence p) a ∷ mine) written (if x then Place.Confirm round (p + 1) else after_round c r (event_by r (Verb.Fence p) a ∷ mine) round)
    go true waiting = waiting
    go false waiting = round_rooms c r round (event_by r (Verb.Fence p) a ∷ mine) written inside waiting
rooms_last c r b mine up reach written t (Place.ReadMin p) a one is inside at possible turn rooms =
    let test = λ (k : ℕ). is_some (noted_grant r k mine) in
    min_rooms c r p a mine written (noted_from c r (event_by r (Verb.Min p) a ∷ mine) (p + 1)) (noted_from c r (event_by r (Verb.Min p) a ∷ mine) 0) is inside turn at (first_in_is test (p + 1) c.replicas) (first_in_is test 0 c.replicas) rooms
rooms_last c r b mine up reach written t (Place.EnterMin p) a one is inside at possible turn rooms =
    let goal = λ (y : Answer). RoomsAt c r (event_by r (Verb.Enter p Target.Min) y ∷ mine) written (next_place c r b (event_by r (Verb.Enter p Target.Min) y ∷ mine) t y (Place.EnterMin p)) in
    elim (enters_or c r p Target.Min a mine possible) [
      | inl entered ↦ subst goal (sym entered) (rooms_entered c r p mine is turn rooms)
      | inr lost ↦ subst goal (sym lost.1) ((λ same. rooms_lost c r p Target.Min lost.0 Stage.EnterMin mine is turn rooms.led.placed), λ other. absurd (other refl))
    ]
rooms_last c r b mine up reach written t (Place.PutMin p) a one is inside at possible turn rooms =
    let now = λ (y : Answer). event_by r (Verb.PutMin p b) y ∷ mine in
    let goal = λ (y : Answer). RoomsAt c r (now y) written (next_place c r b (now y) t y (Place.PutMin p)) in
    elim (puts_min_or c r p b a mine possible) [
      | inl done ↦ subst goal (sym done) (join_rooms c r b p (first_member c r (now Answer.Done)) mine written (noted_from c r (now Answer.Done) (p + 1)) is turn at.entering.region (first_in_is (λ k. is_some (noted_grant r k mine)) (p + 1) c.replicas) rooms)
      | inr missed ↦ subst goal (sym missed) (rooms_missed_min c r p b Stage.PutMin mine is turn rooms.led.placed)
    ]
rooms_last c r b mine up reach written t (Place.Evidence p) a one is inside at possible turn ended =
    let seen = sees_fence c r p a mine possible in
    subst (λ y. RoomsAt c r (event_by r (Verb.Fence p) y ∷ mine) written (Place.Ask 0)) (sym seen.1) ((λ same. rooms_evidence c r p seen.0 mine turn ended), λ other. absurd (other refl))
rooms_last c r b mine up reach written t place a one is inside at possible turn rooms = absurd (true≢false (sym one))
