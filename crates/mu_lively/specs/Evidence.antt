-- explains: a put that missed waits for its fence only at the place that reads it, so the next step
-- reads it.
use Rattle.std.specs.Prelude.{List, None, ℕ, ◌≡◌, ◌≢◌}
use Rattle.mu_model.specs.declared.config.Config.{Config}
use Rattle.mu_model.specs.declared.event.Event.{Event}
use Rattle.mu_pace.specs.Counters.{IsInTime, steps_left}
use Rattle.mu_pace.specs.Watches.{explaining}
use Rattle.mu_lead.specs.declared.place.Place.{Place}

-- no miss waits for its fence
abbrev pub IsExplained : Config → ℕ → List Event → Type 0
IsExplained c r mine = (q : ℕ) → steps_left (explaining c r q) mine ≡ None

-- a miss at p may wait for its fence, and no other one does
pub record WaitsForFence (c : Config) (r : ℕ) (mine : List Event) (p : ℕ) : Type 0 where
  pub here : IsInTime (explaining c r p) mine
  pub others : (q : ℕ) → q ≢ p → steps_left (explaining c r q) mine ≡ None

-- what holds of misses at a place
abbrev pub ExplainsAt : Config → ℕ → List Event → Place → Type 0
ExplainsAt c r mine (Place.Evidence p) = WaitsForFence c r mine p
ExplainsAt c r mine place = IsExplained c r mine
