-- A leader that asks again, wherever it is.
use Rattle.std.proofs.Common.{Bool, List, None, ap, arith, false, inl, inr, length, refl, subst, sym, true, true≢false, ℕ, ◌&&◌, ◌<◌, ◌∙◌, ◌∷◌, ◌≡◌, ◌≤◌, ◌⊎◌}
use Rattle.std.specs.Prelude.{is_some, nat_lt, not, if◌then◌else◌}
use Rattle.std.specs.declared.option.Option.{Option}
use Rattle.std.proofs.lemmas.Bool.{and_parts, cases_eq, ltb-false, or_left, or_right}
use Rattle.mu_model.specs.declared.config.Config.{Config}
use Rattle.mu_model.specs.declared.event.Answer.{Answer}
use Rattle.mu_model.specs.declared.event.Event.{Event}
use Rattle.mu_model.specs.Again.{asks_again}
use Rattle.mu_model.specs.Diligence.{may_ask_anew}
use Rattle.mu_model.specs.Bounds.{members}
use Rattle.mu_model.specs.Knowledge.{commits}
use Rattle.mu_model.specs.Leaderships.{begins_leadership, is_member, is_over, proposal_number}
use Rattle.mu_model.specs.Steps.{commits_more, has_min}
use Rattle.mu_model.specs.Stretches.{is_replication}
use Rattle.mu_pace.specs.Watches.{is_full_raise, raising, turns_away}
use Rattle.mu_pace.proofs.Beside.{not_more, unallowed}
use Rattle.mu_pace.proofs.Placed.{shut}
use Rattle.mu_pace.proofs.Countdowns.{countdowns_run}
use Rattle.mu_lead.specs.declared.place.Place.{Place}
use Rattle.mu_lively.specs.Again.{LeadersAskAgain, first_ask, place_asked}
use Rattle.mu_lively.specs.Paces.{PacesAt}
use Rattle.mu_lively.specs.Confirmations.{HasRead, NoneIsAwaited}
use Rattle.mu_lively.specs.Elections.{AsksNext, ElectsAt}
use Rattle.mu_lively.specs.Evidence.{IsExplained}
use Rattle.mu_lead.specs.Listing.{Tables}
use Rattle.mu_lively.specs.Raising.{IsRaisedEverywhere}
use Rattle.mu_lead.specs.Standing.{At}
use Rattle.mu_lead.proofs.Asking.{begins_now}
use Rattle.mu_lively.proofs.Confirms.{round_again}
use Rattle.mu_lively.proofs.ElectionSteps.{asked_last, asked_next, asks_quiet, fences_quiet, quiet_led}
use Rattle.mu_lively.proofs.Joins.{joins_anywhere, none_begun}
use Rattle.mu_lively.proofs.Misses.{explained_on}
use Rattle.mu_lively.proofs.RoomsAsking.{rooms_first_ask}

-- a leader asks again only in a leadership that has its number and isn't over
pub numbered_on : (c : Config) (r : ℕ) (mine : List Event) → asks_again c r mine ≡ true → (is_some (proposal_number r mine) ≡ true) × (is_over r mine ≡ false)
numbered_on c r mine asks =
    let both = and_parts (is_some (proposal_number r mine) && not (is_over r mine)) _ asks in
    let two = and_parts (is_some (proposal_number r mine)) (not (is_over r mine)) both.0 in
    (two.0, goes (is_over r mine) two.1)
  where
    goes : (t : Bool) → not t ≡ true → t ≡ false
    goes true on = absurd (true≢false (sym on))
    goes false on = refl

-- so it doesn't in one without a number
unnumbered_asks : (c : Config) (r : ℕ) (mine : List Event) → asks_again c r mine ≡ true → proposal_number r mine ≡ None → ⊥
unnumbered_asks c r mine asks none = true≢false (sym (numbered_on c r mine asks).0 ∙ ap is_some none)

-- nor in one that is over
over_asks : (c : Config) (r : ℕ) (mine : List Event) → asks_again c r mine ≡ true → is_over r mine ≡ true → ⊥
over_asks c r mine asks over = true≢false (sym over ∙ (numbered_on c r mine asks).1)

-- after the first ask comes the second, or the first fence if there is only one region
abbrev IsAsked : Config → Place → Type 0
IsAsked c place = (place ≡ Place.Ask 1) ⊎ ((place ≡ Place.Confirm 0 0) × (c.replicas ≤ 1))

is_asked : (c : Config) (r n : ℕ) (mine : List Event) (t : Tables) (a : Answer) → IsAsked c (place_asked c r n mine t a)
is_asked c r n mine t a = go (nat_lt 1 c.replicas) refl
  where
    go : (x : Bool) → nat_lt 1 c.replicas ≡ x → IsAsked c (if x then Place.Ask 1 else Place.Confirm 0 0)
    go true more = inl refl
    go false last = inr (refl, ltb-false 1 c.replicas last)

-- before the ask no put that missed waits for its evidence and no confirmed leadership for its
-- minimum, and with the ask the asks are in time
record IsLeaving (c : Config) (r : ℕ) (mine : List Event) : Type 0 where
  pub explained : IsExplained c r mine
  pub read : NoneIsAwaited c r mine
  pub elects : (a : Answer) → is_replication mine (first_ask r a) ≡ true → (place : Place) → IsAsked c place → ElectsAt c r (first_ask r a ∷ mine) place

-- with the ask they are in time if the leadership had read a minimum
elects_led : (c : Config) (r : ℕ) (mine : List Event) → has_min r mine ≡ true → is_over r mine ≡ false → (a : Answer) → is_replication mine (first_ask r a) ≡ true → (place : Place) → IsAsked c place → ElectsAt c r (first_ask r a ∷ mine) place
elects_led c r mine read going a turn place goes =
    let now = first_ask r a ∷ mine in
    let quiet = quiet_led c r mine (first_ask r a) turn read going in
    elim goes [
      | inl is ↦ subst (ElectsAt c r now) (sym is) (asks_quiet c r 1 now quiet)
      | inr x ↦ subst (ElectsAt c r now) (sym x.0) (fences_quiet c r 0 0 now quiet)
    ]

-- and if the first ask was next anyway
elects_asked : (c : Config) (r : ℕ) (mine : List Event) → 0 < c.replicas → AsksNext c r mine 0 → (a : Answer) → is_replication mine (first_ask r a) ≡ true → (place : Place) → IsAsked c place → ElectsAt c r (first_ask r a ∷ mine) place
elects_asked c r mine some at a turn place goes =
    let now = first_ask r a ∷ mine in
    elim goes [
      | inl is ↦ subst (ElectsAt c r now) (sym is) (asked_next c r 0 a mine turn at)
      | inr x ↦ subst (ElectsAt c r now) (sym x.0) (asked_last c r 0 a mine turn some x.1 at)
    ]

-- a leader that leads leaves in such a state
leaving_led : (c : Config) (r : ℕ) (mine : List Event) → is_over r mine ≡ false → IsExplained c r mine → HasRead c r mine → IsLeaving c r mine
leaving_led c r mine going explained read = record { explained = explained; read = read.none; elects = elects_led c r mine read.read going }

-- and so does one that asks again, at any place
leaving : (c : Config) (r b : ℕ) (mine : List Event) (up : List ℕ) (reach : List (Option ℕ)) (written : List ℕ) (place : Place) → 0 < c.replicas → asks_again c r mine ≡ true → At c r b mine up reach written place → PacesAt c r mine written place → IsLeaving c r mine
leaving c r b mine up reach written (Place.Ask p) some asks at keeps = elim (cases_eq p 0) [
  | inl first ↦ record { explained = keeps.counts.evidence; read = keeps.counts.confirms; elects = elects_asked c r mine some (subst (AsksNext c r mine) first keeps.elects) }
  | inr other ↦ elim at.asked [
    | inl first ↦ absurd (other first)
    | inr asked ↦ absurd (unnumbered_asks c r mine asks asked.1.unnumbered)
  ]
]
leaving c r b mine up reach written (Place.Confirm round p) some asks at keeps = absurd (unnumbered_asks c r mine asks at.1.fresh.unnumbered)
leaving c r b mine up reach written (Place.ReadMin p) some asks at keeps = absurd (unnumbered_asks c r mine asks at.telling.fresh.unnumbered)
leaving c r b mine up reach written (Place.Evidence p) some asks at keeps = absurd (over_asks c r mine asks keeps.counts.rooms.over)
leaving c r b mine up reach written place some asks at keeps = leaving_led c r mine (numbered_on c r mine asks).1 keeps.counts.evidence keeps.counts.confirms

-- after a first ask no FUO has to be raised
none_raises : (c : Config) (r : ℕ) (a : Answer) (mine : List Event) → IsRaisedEverywhere c r (first_ask r a ∷ mine)
none_raises c r a mine q =
    let e = first_ask r a in
    shut (raising c r q) mine e (unallowed (λ before f. commits_more c r before f && is_member r q (f ∷ before)) (members c r) mine e (ap (λ z. z && is_member r q (e ∷ mine)) (not_more (length (commits c r mine)))))
    (or_left (begins_leadership r e) (turns_away c r (is_full_raise c r q) mine e) (begins_now r a))

-- after the ask a leader keeps all that it keeps at the next place
keeps_asked : (c : Config) (r : ℕ) (mine : List Event) (words : List ℕ) (a : Answer) (place : Place) → is_replication mine (first_ask r a) ≡ true → IsLeaving c r mine → IsAsked c place → PacesAt c r (first_ask r a ∷ mine) words place
keeps_asked c r mine words a place turn leaves goes =
    let now = first_ask r a ∷ mine in
    let waiting = rooms_first_ask c r 0 a mine refl in
    let explained = explained_on c r mine (first_ask r a) (λ q. refl) leaves.explained in
    let raised = none_raises c r a mine in
    let read = countdowns_run.confirms.quiet c r mine (first_ask r a) refl leaves.read in
    let waits = none_begun c r 0 a mine refl in
    elim goes [
      | inl is ↦ subst (PacesAt c r now words) (sym is) (record {
        counts = record { rooms = ((λ first. absurd (omega (arith, first))), λ other. waiting); evidence = explained; raises = raised; confirms = read; joins = joins_anywhere c r now (Place.Ask 1) waits };
        causes = record { first = λ first. absurd (omega (arith, first)); later = λ other. waiting.unread };
        elects = leaves.elects a turn (Place.Ask 1) (inl refl);
      })
      | inr x ↦ subst (PacesAt c r now words) (sym x.0) (record {
        counts = record { rooms = waiting; evidence = explained; raises = raised; confirms = round_again c r 0 now read; joins = joins_anywhere c r now (Place.Confirm 0 0) waits };
        causes = record { unread = waiting.unread; below = λ q none. absurd (omega (arith, none)); each = λ q there. omega arith };
        elects = leaves.elects a turn (Place.Confirm 0 0) (inr (refl, x.1));
      })
    ]

pub leaders_ask_again : LeadersAskAgain
leaders_ask_again = record {
  asked = λ c r b n mine up reach written words t place a some turn asks at keeps. keeps_asked c r mine words a (place_asked c r n mine t a) turn (leaving c r b mine up reach written place some asks at keeps) (is_asked c r n mine t a);
  caused = λ c r mine a named asks. record { named = λ p asked. named; anew = λ asked. or_right (may_ask_anew c r mine) (asks_again c r mine) asks };
}
