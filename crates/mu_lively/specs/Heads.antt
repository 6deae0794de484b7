-- raises its head at: the event at one place of each round raises the replica's own head if it may
-- be raised, so it is raised in time.
use Rattle.std.specs.Prelude.{List, length, true, ℕ, ◌%◌, ◌<◌, ◌≡◌}
use Rattle.mu_model.specs.declared.config.Config.{Config}
use Rattle.mu_model.specs.declared.event.Event.{Event}
use Rattle.mu_model.specs.Bounds.{cycle}
use Rattle.mu_model.specs.Steps.{is_head_raise}
use Rattle.mu_pace.specs.Counters.{IsInTime}
use Rattle.mu_agree.specs.Moments.{AtEachMoment, AtEachStep}
use Rattle.mu_pace.specs.Watches.{is_head_due, raising_head}

-- the event at the place k of each round raises the replica's own head if it may be raised
abbrev pub RaisesHeadAt : Config → ℕ → ℕ → List Event → Type 0
RaisesHeadAt c r k past =
    AtEachStep
    (λ before e. length before % cycle c ≡ k → is_head_due c r before ≡ true
    → is_head_raise e ≡ true)
    past

-- a replica that raises its head like this at one place of the round raises it in time
abbrev pub HeadsRiseInTime : Type 0
HeadsRiseInTime =
    (c : Config) (r k : ℕ) (past : List Event) → k < cycle c → RaisesHeadAt c r k past
    → AtEachMoment (IsInTime (raising_head c r)) past
