-- causes: a leadership may begin when the first region is asked next: there is none, or the one
-- before is over, was left, or was not confirmed in 16 rounds.
use Rattle.std.specs.Prelude.{List, true, false, ℕ, ◌+◌, ◌<◌, ◌≡◌, ◌≢◌, ◌≤◌}
use Rattle.mu_model.specs.declared.config.Config.{Config}
use Rattle.mu_model.specs.declared.event.Event.{Event}
use Rattle.mu_model.specs.Diligence.{may_ask_anew}
use Rattle.mu_model.specs.Histories.{how_many}
use Rattle.mu_model.specs.Leaderships.{is_over, leadership}
use Rattle.mu_model.specs.Steps.{has_min, is_fencing}
use Rattle.mu_lead.specs.declared.place.Place.{Place}

-- a leadership may begin if the first region is asked next; one that read no minimum goes on if
-- another region is
pub record MayAsk (c : Config) (r : ℕ) (mine : List Event) (p : ℕ) : Type 0 where
  pub first : p ≡ 0 → may_ask_anew c r mine ≡ true
  pub later : p ≢ 0 → has_min r mine ≡ false

-- no minimum was read; each fence was read in `round` rounds of the leadership, and those below p
-- once more
pub record HasReadRounds (c : Config) (r : ℕ) (mine : List Event) (round p : ℕ) : Type 0 where
  pub unread : has_min r mine ≡ false
  pub below : (q : ℕ) → q < p → round + 1 ≤ how_many (is_fencing q) (leadership r mine)
  pub each : (q : ℕ) → q < c.replicas → round ≤ how_many (is_fencing q) (leadership r mine)

-- what holds of the cause of the next ask at a place
abbrev pub CausesAt : Config → ℕ → List Event → Place → Type 0
CausesAt c r mine (Place.Ask p) = MayAsk c r mine p
CausesAt c r mine (Place.Confirm round p) = HasReadRounds c r mine round p
CausesAt c r mine (Place.Evidence p) = is_over r mine ≡ true
CausesAt c r mine place = Unit {0}
