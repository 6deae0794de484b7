-- walk: the courses of all replicas and the states of all regions along a list, up to the event
-- that breaks it, if one does.
use Rattle.std.specs.Prelude.{ℕ, ◌≡◌, ◌<◌, List, None, Some, length}
use Rattle.std.specs.declared.option.Option.{Option}
use Rattle.std.specs.List.{slice_get}
use Rattle.mu_model.specs.declared.config.Config.{Config}
use Rattle.mu_model.specs.declared.event.Event.{Event}
use Rattle.mu_model.specs.Histories.{history, part}
use Rattle.mu_model.specs.Legal.{IsLegalHistory, MayFollow}
use Rattle.mu_outcome.specs.Breaks.{IsBroken, IsFault}
use Rattle.mu_outcome.specs.declared.fault.Broken.{Broken}
use Rattle.mu_outcome.specs.declared.fault.Fault.{Fault}
use Rattle.mu_regions.specs.Stands.{Stands}
use Rattle.mu_model.specs.declared.event.Answer.{Answer}
use Rattle.mu_model.specs.declared.event.Fence.{Fence}
use Rattle.mu_course.specs.Courses.{StandsForCourse, TellsTurn}
use Rattle.mu_course.specs.declared.course.Course.{Course}
use Rattle.mu_course.specs.declared.course.Turn.{Turn}
use Rattle.mu_course.specs.declared.walk.Walk.{Walk}

-- the history is legal; there is a course of each replica, which stands for its part, and the
-- states of the regions stand for the history
pub record StandsForWalk (c : Config) (past : List Event) (walk : Walk) : Type 0 where
  pub legal : IsLegalHistory c past
  pub count : length walk.courses.items ≡ c.replicas
  pub each :
      (r : ℕ) (course : Course) → slice_get walk.courses.items r ≡ Some course
      → StandsForCourse c r (part r past) course
  pub regions : Stands c past walk.regions

-- what a walk tells of a replica: of the replica's part of the events that it stands for
abbrev pub TellsAt : {A : Type 0} → Walk → ℕ → (Config → ℕ → List Event → A) → A → Type 0
TellsAt walk r of told =
    (past : List Event) → (c : Config) → r < c.replicas → StandsForWalk c past walk
    → told ≡ of c r (part r past)

-- what a walk tells of a region
abbrev pub TellsRegion : {A : Type 0} → Walk → ℕ → (ℕ → List Event → A) → A → Type 0
TellsRegion walk region of told =
    (past : List Event) → (c : Config) → region < c.replicas → StandsForWalk c past walk
    → told ≡ of region past

-- this is wrong with the event after the history, or it may follow
abbrev pub TellsFault : Config → List Event → Event → Option Fault → Type 0
TellsFault c past e None = MayFollow c past e
TellsFault c past e (Some fault) = IsFault c past e fault

-- the list is legal, and these are the states after it; or it breaks here
abbrev pub IsWalked : Config → List Event → Walk → Option Broken → Type 0
IsWalked c events walk None = StandsForWalk c (history events) walk
IsWalked c events walk (Some broken) = IsBroken c events broken

-- it is told what the step comes to
abbrev pub TellsStep : Config → List Event → Event → Option Turn → Type 0
TellsStep c mine e None = ⊥
TellsStep c mine e (Some turn) = TellsTurn c mine e turn

-- the fence that an answer shows
abbrev pub fence_shown : Answer → Option Fence
fence_shown (Answer.Seen fence) = Some fence
fence_shown _ = None

-- the grant of a fence, if there is one
abbrev pub grants_shown : Option Fence → ℕ
grants_shown None = 0
grants_shown (Some fence) = fence.grant
