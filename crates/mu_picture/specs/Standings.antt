-- How a lane stands after the last step of its replica.
use Rattle.std.specs.Prelude.{ℕ, Bool, ◌+◌, ◌==◌, if◌then◌else◌, None, Some, List, [], ◌∷◌, length}
use Rattle.std.specs.declared.option.Option.{Option}
use Rattle.mu_model.specs.declared.config.Config.{Config}
use Rattle.mu_model.specs.declared.event.Event.{Event}
use Rattle.mu_model.specs.declared.script.Script.{Script}
use Rattle.mu_model.specs.Histories.{part}
use Rattle.mu_model.specs.Regions.{fence_grant}
use Rattle.mu_course.specs.Courses.{finishes}
use Rattle.mu_picture.specs.Deeds.{deed_of}
use Rattle.mu_course.specs.Halts.{halt_after}
use Rattle.mu_picture.specs.declared.deeds.Deed.{Deed}
use Rattle.mu_course.specs.declared.halts.Halt.{Halt}
use Rattle.mu_picture.specs.declared.standings.Resumed.{Resumed}
use Rattle.mu_picture.specs.declared.standings.Standing.{Standing}

-- what the event after the history does that is drawn
abbrev pub deed_after : Config → List Event → Event → Option Deed
deed_after c past e = deed_of c (part e.by past) (fence_grant e.by past) e

-- what befalls its replica after it
abbrev pub halt_by : Config → Script → List Event → Event → Option Halt
halt_by c script past e =
    halt_after c script e.by (length (part e.by past) + 1) (finishes c e.by (part e.by past) e)

-- how the lane stands after a step that does this, and after which this befalls the replica
abbrev pub standing_with : Option Deed → Option Halt → Standing
standing_with (Some (Deed.Outrun p i)) halt = Standing.Ended
standing_with deed None = Standing.Going
standing_with deed (Some (Halt.Pause rounds)) = Standing.Paused
standing_with deed (Some halt) = Standing.Ended

-- how the lane of r stands after the history: as the last step of r left it
abbrev pub standing_of : Config → Script → ℕ → List Event → Standing
standing_of c script r [] = Standing.Going
standing_of c script r (e ∷ past) =
    if e.by == r then standing_with (deed_after c past e) (halt_by c script past e)
    else standing_of c script r past

-- a step after a pause or an end: whether its replica leads before it, and whom it names
abbrev pub resumed_with : Standing → Bool → ℕ → Option Resumed
resumed_with Standing.Going leads named = None
resumed_with Standing.Paused leads named = Some (record { leads = leads; named = named })
resumed_with Standing.Ended leads named = Some (record { leads = leads; named = named })
