-- The count of steps to the first minimum of a confirmed leadership, step by step.
use Rattle.std.proofs.Common.{◌≡◌, ℕ, ◌+◌, ◌-◌, ◌<◌, Bool, true, false, ◌&&◌, List, ◌∷◌, None, refl, sym, arith, true≢false}
use Rattle.std.specs.Prelude.{not}
use Rattle.std.proofs.lemmas.Bool.{and_left, and_parts, and_right}
use Rattle.mu_model.specs.declared.config.Config.{Config}
use Rattle.mu_model.specs.declared.event.Answer.{Answer}
use Rattle.mu_model.specs.declared.event.Event.{Event}
use Rattle.mu_model.specs.declared.event.Verb.{Verb}
use Rattle.mu_model.specs.Diligence.{is_confirmed}
use Rattle.mu_model.specs.Histories.{has, event_by}
use Rattle.mu_model.specs.Leaderships.{has_begun, leadership}
use Rattle.mu_model.specs.Steps.{has_min, is_any_fencing_verb, is_min}
use Rattle.mu_model.specs.Stretches.{is_replication}
use Rattle.mu_pace.specs.Counters.{HasRoom, IsInTime, allowed_after}
use Rattle.mu_pace.specs.Watches.{confirming, is_confirming}
use Rattle.mu_pace.proofs.Beside.{unallowed}
use Rattle.mu_pace.proofs.Countdowns.{countdowns_run}
use Rattle.mu_pace.proofs.Rooms.{kinds_of_step}
use Rattle.mu_lead.specs.declared.place.Place.{Place}
use Rattle.mu_lead.specs.Beside.{is_beside}
use Rattle.mu_lively.specs.Confirmations.{ConfirmsAt, HasRead, NoneIsAwaited}
use Rattle.mu_lead.specs.Going.{begins_at}
use Rattle.mu_lively.proofs.RoomsMin.{min_now}

-- if a minimum was read it holds at each place
pub anywhere : (c : Config) (r : ℕ) (mine : List Event) (place : Place) → HasRead c r mine → ConfirmsAt c r mine place
anywhere c r mine (Place.Ask p) at = at.none
anywhere c r mine (Place.Confirm round p) at = kinds_of_step.closed (confirming c r) (c.replicas - p + 1) mine at.none
anywhere c r mine (Place.ReadMin p) at = kinds_of_step.closed (confirming c r) 1 mine at.none
anywhere c r mine place at = at

-- once a minimum was read no fence confirms anew
already : (a b m k : Bool) → m ≡ true → (a && (b && (not m && k))) ≡ false
already a b true k read = and_right a (b && false) (and_right b false refl)
already a b false k read = absurd (true≢false (sym read))

pub read_on : (c : Config) (r : ℕ) (mine : List Event) (e : Event) → has_min r (e ∷ mine) ≡ true → HasRead c r mine → HasRead c r (e ∷ mine)
read_on c r mine e read at = record {
  read = read;
  none = kinds_of_step.stays_closed (confirming c r) mine e
      (unallowed (is_confirming c r) (λ now. c.replicas) mine e (already (has_begun r mine) (is_any_fencing_verb e.verb) (has_min r mine) (is_confirmed c r (e ∷ mine)) at.read)) at.none;
}

-- a later minimum leaves it so
pub later_read : (r p : ℕ) (a : Answer) (mine : List Event) → has_min r mine ≡ true → has_min r (event_by r (Verb.Min p) a ∷ mine) ≡ true
later_read r p a mine read = min_now r p a mine (and_parts (has_begun r mine) (has is_min (leadership r mine)) read).0

-- the next fence of the round
pub next_fence : (c : Config) (r p q : ℕ) (a : Answer) (mine : List Event) → q ≡ p + 1 → q < c.replicas → HasRoom (confirming c r) (c.replicas - p + 1) mine
    → HasRoom (confirming c r) (c.replicas - q + 1) (event_by r (Verb.Fence p) a ∷ mine)
next_fence c r p q a mine next low room =
    countdowns_run.confirms.fence c r (c.replicas - q + 1) mine (event_by r (Verb.Fence p) a) (omega (arith, next, low))
    (kinds_of_step.less (confirming c r) (c.replicas - p + 1) (c.replicas - q + 1 + 1) mine (omega (arith, next, low)) room)

-- the last one
pub last_fence : (c : Config) (r p : ℕ) (a : Answer) (mine : List Event) → p < c.replicas → HasRoom (confirming c r) (c.replicas - p + 1) mine → IsInTime (confirming c r) (event_by r (Verb.Fence p) a ∷ mine)
last_fence c r p a mine low room =
    countdowns_run.confirms.fence c r 1 mine (event_by r (Verb.Fence p) a) (omega (arith, low))
    (kinds_of_step.less (confirming c r) (c.replicas - p + 1) (1 + 1) mine (omega (arith, low)) room)

-- by which none is confirmed
pub unconfirmed_fence : (c : Config) (r p : ℕ) (a : Answer) (mine : List Event) → is_replication mine (event_by r (Verb.Fence p) a) ≡ true → is_confirmed c r (event_by r (Verb.Fence p) a ∷ mine) ≡ false
    → NoneIsAwaited c r (event_by r (Verb.Fence p) a ∷ mine)
unconfirmed_fence c r p a mine turn none = countdowns_run.confirms.unconfirmed c r mine (event_by r (Verb.Fence p) a) turn refl none

-- another round, or asks
pub round_again : (c : Config) (r round : ℕ) (mine : List Event) → NoneIsAwaited c r mine → HasRoom (confirming c r) (c.replicas - 0 + 1) mine
round_again c r round mine none = kinds_of_step.closed (confirming c r) (c.replicas - 0 + 1) mine none

-- what another machine does in the background
unfenced : (leading : Bool) (verb : Verb) → is_beside leading verb ≡ true → is_any_fencing_verb verb ≡ false
unfenced leading (Verb.Fence p) beside = absurd (true≢false (sym beside))
unfenced leading verb beside = refl

still_read : (r : ℕ) (leading : Bool) (verb : Verb) (answer : Answer) (mine : List Event) → is_beside leading verb ≡ true → has_min r mine ≡ true → has_min r (event_by r verb answer ∷ mine) ≡ true
still_read r leading (Verb.Ask p) answer mine beside read = absurd (true≢false (sym beside))
still_read r leading (Verb.Min p) answer mine beside read = absurd (true≢false (sym beside))
still_read r leading verb answer mine beside read = read

none_confirmed : (c : Config) (r : ℕ) (leading : Bool) (verb : Verb) (answer : Answer) (mine : List Event) → is_beside leading verb ≡ true → allowed_after (is_confirming c r) (λ now. c.replicas) (event_by r verb answer ∷ mine) ≡ None
none_confirmed c r leading verb answer mine beside =
    unallowed (is_confirming c r) (λ now. c.replicas) mine (event_by r verb answer)
    (and_right (has_begun r mine) (is_any_fencing_verb verb && (not (has_min r mine) && is_confirmed c r (event_by r verb answer ∷ mine)))
    (and_left (is_any_fencing_verb verb) (not (has_min r mine) && is_confirmed c r (event_by r verb answer ∷ mine)) (unfenced leading verb beside)))

pub confirms_beside : (c : Config) (r : ℕ) (mine : List Event) (leading : Bool) (place : Place) (verb : Verb) (answer : Answer) → is_replication mine (event_by r verb answer) ≡ false → is_beside leading verb ≡ true → ConfirmsAt c r mine place → ConfirmsAt c r (event_by r verb answer ∷ mine) place
confirms_beside c r mine leading (Place.Ask p) verb answer off beside at = countdowns_run.confirms.quiet c r mine (event_by r verb answer) (unfenced leading verb beside) at
confirms_beside c r mine leading (Place.Confirm round p) verb answer off beside at = kinds_of_step.stays (confirming c r) (c.replicas - p + 1) (c.replicas - p + 1) mine (event_by r verb answer) (none_confirmed c r leading verb answer mine beside) off (omega arith) at
confirms_beside c r mine leading (Place.ReadMin p) verb answer off beside at = kinds_of_step.stays (confirming c r) 1 1 mine (event_by r verb answer) (none_confirmed c r leading verb answer mine beside) off (omega arith) at
confirms_beside c r mine leading place verb answer off beside at = read_on c r mine (event_by r verb answer) (still_read r leading verb answer mine beside at.read) at

pub confirms_in_time : (c : Config) (r : ℕ) (mine : List Event) (place : Place) → ConfirmsAt c r mine place → IsInTime (confirming c r) mine
confirms_in_time c r mine (Place.Ask p) at = kinds_of_step.closed (confirming c r) 1 mine at
confirms_in_time c r mine (Place.Confirm round p) at = kinds_of_step.less (confirming c r) (c.replicas - p + 1) 1 mine (omega arith) at
confirms_in_time c r mine (Place.ReadMin p) at = at
confirms_in_time c r mine place at = kinds_of_step.closed (confirming c r) 1 mine at.none

pub none_anew : (c : Config) (r : ℕ) (mine : List Event) (place : Place) → begins_at place ≡ true → ConfirmsAt c r mine place → NoneIsAwaited c r mine
none_anew c r mine (Place.Ask p) begins at = at
none_anew c r mine place begins at = absurd (true≢false (sym begins))
