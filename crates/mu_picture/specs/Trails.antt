-- When the states of a trail stand for a history, and how far it has come along a list.
use Rattle.std.specs.Prelude.{ℕ, ◌≡◌, ◌+◌, None, Some, Ok, Err, IfSome, List, take}
use Rattle.std.specs.List.{slice_get}
use Rattle.std.specs.declared.option.Option.{Option}
use Rattle.std.specs.declared.result.Result.{Result}
use Rattle.mu_course.specs.Courses.{TellsTurn}
use Rattle.mu_course.specs.Walks.{StandsForWalk}
use Rattle.mu_course.specs.declared.course.Turn.{Turn}
use Rattle.mu_model.specs.declared.config.Config.{Config}
use Rattle.mu_model.specs.declared.event.Event.{Event}
use Rattle.mu_model.specs.declared.event.Verb.TheVariants.{ReadBeat}
use Rattle.mu_model.specs.declared.script.Script.{Script}
use Rattle.mu_model.specs.Histories.{history}
use Rattle.mu_outcome.specs.Breaks.{IsBroken}
use Rattle.mu_outcome.specs.declared.fault.Broken.{Broken}
use Rattle.mu_picture.specs.Marks.{mark_of}
use Rattle.mu_picture.specs.Hearing.{Hears}
use Rattle.mu_picture.specs.StandingsHeld.{HoldStandings}
use Rattle.mu_picture.specs.declared.deeds.Heard.{Heard}
use Rattle.mu_picture.specs.declared.marks.Mark.{Mark}
use Rattle.mu_picture.specs.declared.trail.Trail.{Trail}

-- those of the replicas and regions do, and those of the lanes
pub record StandsForTrail (c : Config) (script : Script) (past : List Event)
    (trail : Trail) : Type 0 where
  pub walk : StandsForWalk c past trail.walk
  pub standings : HoldStandings c script past trail.standings

-- it is told what the event comes to, after these events of its replica, and what it changes of
-- whom that holds to be failed
pub record TellsBoth (c : Config) (mine : List Event) (e : Event) (turn : Turn)
    (heard : Heard) : Type 0 where
  pub told : TellsTurn c mine e turn
  pub hears : (q : ℕ) → e.verb ≡ ReadBeat q → Hears c mine q e heard

abbrev pub TellsNoted : Config → List Event → Event → Option (Turn × Heard) → Type 0
TellsNoted c mine e None = ⊥
TellsNoted c mine e (Some noted) = TellsBoth c mine e noted.0 noted.1

-- the event at the index was taken, and has this mark, if it is drawn
pub record HasTaken (c : Config) (script : Script) (events : List Event) (index : ℕ)
    (trail : Trail) (made : Option Mark) : Type 0 where
  pub event : Event
  pub there : slice_get events index ≡ Some event
  pub mark : made ≡ mark_of c script (history (take index events)) event
  pub stands : StandsForTrail c script (history (take (index + 1) events)) trail

-- all events before the place were taken; if the list broke, it is there
pub record HasPassed (c : Config) (script : Script) (events : List Event) (place : ℕ)
    (trail : Trail) (broken : Option Broken) : Type 0 where
  pub stands : StandsForTrail c script (history (take place events)) trail
  pub breaks : IfSome broken (λ b. IsBroken c events b × (b.index ≡ place))

-- the event at the index was taken, or the list breaks there
abbrev pub IsAtNext : Config → Script → List Event → ℕ → Trail → Result (Option Mark) Broken
    → Type 0
IsAtNext c script events index trail (Ok mark) = HasTaken c script events index trail mark
IsAtNext c script events index trail (Err broken) =
    HasPassed c script events index trail (Some broken)
