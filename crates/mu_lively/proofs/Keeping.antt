-- What a leader keeps with an event, by what stands at its place after it.
use Rattle.std.proofs.Common.{◌≡◌, ◌∙◌, ℕ, ◌*◌, ◌==◌, Bool, true, false, None, Some, List, ◌∷◌, ap, refl, sym, true≢false}
use Rattle.std.specs.declared.option.Option.{Option}
use Rattle.std.proofs.lemmas.Bool.{and_parts, or_left}
use Rattle.mu_model.specs.Again.{asks_again}
use Rattle.mu_model.specs.Contents.{IsConfig}
use Rattle.mu_model.specs.Diligence.{may_ask_anew}
use Rattle.mu_model.specs.Leaderships.{begins_leadership, is_first_ask, proposal_number}
use Rattle.mu_model.specs.declared.config.Config.{Config}
use Rattle.mu_model.specs.declared.event.Event.{Event}
use Rattle.mu_model.specs.declared.event.Verb.{Verb}
use Rattle.std.specs.Prelude.{is_some}
use Rattle.mu_pace.specs.Collecting.{LeaderKeepsBy}
use Rattle.mu_pace.specs.Counters.{steps_left}
use Rattle.mu_pace.specs.Keeping.{HasCause, HasCauseBy}
use Rattle.mu_pace.specs.Watches.{confirming}
use Rattle.mu_lead.specs.Beside.{is_beside}
use Rattle.mu_lively.specs.Confirmations.{ConfirmsAt}
use Rattle.mu_lively.specs.Elections.{since_ask, since_fence}
use Rattle.mu_lead.specs.Going.{begins_at}
use Rattle.mu_lead.specs.Listing.{Tables}
use Rattle.mu_lead.specs.Standing.{At, verb_at}
use Rattle.mu_lead.specs.declared.place.Place.{Place}
use Rattle.mu_lively.proofs.AskedAgain.{numbered_on}
use Rattle.mu_lively.proofs.Confirms.{confirms_in_time}
use Rattle.mu_lively.proofs.Elections.{lately, left_at}
use Rattle.mu_lively.proofs.Joins.{joins_in_time}
use Rattle.mu_lively.proofs.Misses.{explained_in_time}
use Rattle.mu_lively.proofs.Raises.{raised_in_time}
use Rattle.mu_lively.proofs.RoomsInTime.{place_in_time}
use Rattle.mu_lively.proofs.Places.{IsInPlace}

-- with a cause, if it asks
pub kept_in_place : (again : Bool) (c : Config) (r : ℕ) (mine : List Event) (e : Event) (t : Tables) (place : Place) → IsConfig c → IsInPlace c r (e ∷ mine) t place → HasCauseBy again c r mine e → (begins_leadership r e ≡ true → steps_left (confirming c r) mine ≡ None) → LeaderKeepsBy again c r mine e
kept_in_place again c r mine e t place good h cause anew =
    let now = e ∷ mine in
    let left = left_at c r h.number now t.up t.reach t.written place h.stood.at h.paces.elects in
    record {
      asks = record {
        asks = λ p low. lately (since_ask c r p now) (17 * c.replicas) (left.asks p low);
        fences = λ p low. lately (since_fence c r p now) (17 * c.replicas) (left.fences p low);
      };
      cause = cause;
      confirmation = record { in_time = confirms_in_time c r now place h.paces.counts.confirms; anew = anew };
      places = place_in_time c r now t.written place good h.paces.counts.rooms;
      evidence = explained_in_time c r now place h.paces.counts.evidence;
      raises = λ p low. raised_in_time c r h.number now t.up t.reach t.written place h.stood.at h.paces.counts.raises p;
      joins = λ p low. joins_in_time c r now place h.paces.counts.joins p;
    }

-- who asks with a cause does so too if it may ask again
pub cause_by : (again : Bool) (c : Config) (r : ℕ) (mine : List Event) (e : Event) → HasCause c r mine e → HasCauseBy again c r mine e
cause_by false c r mine e cause = cause
cause_by true c r mine e cause = record { named = cause.named; anew = λ asks. or_left (may_ask_anew c r mine) (asks_again c r mine) (cause.anew asks) }

-- an event beside the leader begins no leadership
pub beside_begins : (r by : ℕ) (leading : Bool) (verb : Verb) → is_beside leading verb ≡ true → is_first_ask r by verb ≡ false
beside_begins r by leading (Verb.Ask p) beside = absurd (true≢false (sym beside))
beside_begins r by leading verb beside = refl

-- one of the leader begins one if its place says so
abbrev asks_first : ℕ → ℕ → Option Verb → Bool
asks_first r by None = false
asks_first r by (Some verb) = is_first_ask r by verb

pub place_begins : (c : Config) (r by b : ℕ) (values up written : List ℕ) (place : Place) (verb : Verb) → verb_at c b values up written place ≡ Some verb → is_first_ask r by verb ≡ true → begins_at place ≡ true
place_begins c r by b values up written place verb due begins = go place (ap (asks_first r by) due ∙ begins)
  where
    go : (place : Place) → asks_first r by (verb_at c b values up written place) ≡ true → begins_at place ≡ true
    go (Place.Ask p) begins = (and_parts (by == r) (p == 0) begins).1
    go place begins = absurd (true≢false (sym begins))

-- no confirmed leadership waits for its minimum when a leader asks again
unnumbered : (c : Config) (r : ℕ) (mine : List Event) → asks_again c r mine ≡ true → proposal_number r mine ≡ None → ⊥
unnumbered c r mine asks none = true≢false (sym (numbered_on c r mine asks).0 ∙ ap is_some none)

pub none_waits : (c : Config) (r b : ℕ) (mine : List Event) (up : List ℕ) (reach : List (Option ℕ)) (written : List ℕ) (place : Place) → asks_again c r mine ≡ true → At c r b mine up reach written place → ConfirmsAt c r mine place → steps_left (confirming c r) mine ≡ None
none_waits c r b mine up reach written (Place.Ask p) asks at confirms = confirms
none_waits c r b mine up reach written (Place.Confirm round p) asks at confirms = absurd (unnumbered c r mine asks at.1.fresh.unnumbered)
none_waits c r b mine up reach written (Place.ReadMin p) asks at confirms = absurd (unnumbered c r mine asks at.telling.fresh.unnumbered)
none_waits c r b mine up reach written place asks at confirms = confirms.none
