-- An event whose verb doesn't bear on a leadership leaves it as it is.
use Rattle.std.proofs.Common.{◌≡◌, ℕ, false, List, ◌∷◌}
use Rattle.mu_model.specs.declared.event.Answer.{Answer}
use Rattle.mu_model.specs.declared.event.Event.{Event}
use Rattle.mu_model.specs.declared.event.Verb.{Verb}
use Rattle.mu_model.specs.Histories.{event_by}
use Rattle.mu_leadership.specs.Bearing.{changes_leadership}
use Rattle.mu_leadership.specs.Leadership.{StandsForLeadership}
use Rattle.mu_leadership.specs.declared.leadership.Leadership.{Leadership}

kept_by : (r by : ℕ) (verb : Verb) (answer : Answer) (mine : List Event) (state : Leadership) → changes_leadership verb ≡ false → StandsForLeadership r mine state → StandsForLeadership r (event_by by verb answer ∷ mine) state
kept_by r by (Verb.Ask p) answer mine state other held = cc
kept_by r by (Verb.Fence p) answer mine state other held = cc
kept_by r by (Verb.Min p) answer mine state other held = cc
kept_by r by (Verb.Enter p t) answer mine state other held = cc
kept_by r by (Verb.PutMin p b) answer mine state other held = cc
kept_by r by (Verb.PutSlot p i b v) answer mine state other held = cc
kept_by r by verb answer mine state other held = record {
  replica = held.replica;
  begun = held.begun;
  asked = held.asked;
  over = held.over;
  number = held.number;
  read = held.read;
  put = held.put;
  notes = λ p notes there. let d = held.notes p notes there in record { noted = d.noted; joined = d.joined; entered = d.entered; opened = d.opened; minimum = d.minimum; has_read = d.has_read; seen = d.seen; foreign = d.foreign };
}

pub leading_kept : (r : ℕ) (e : Event) (mine : List Event) (state : Leadership) → changes_leadership e.verb ≡ false → StandsForLeadership r mine state → StandsForLeadership r (e ∷ mine) state
leading_kept r e mine state other held = kept_by r e.by e.verb e.answer mine state other held
