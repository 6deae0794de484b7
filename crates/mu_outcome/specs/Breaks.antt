-- fault, broken, explains: what is wrong with an event; where a list breaks; that a list is legal
-- or breaks there.
use Rattle.std.specs.Prelude.{List, None, Some, take, ℕ, ◌≡◌}
use Rattle.std.specs.declared.option.Option.{Option}
use Rattle.std.specs.List.{slice_get}
use Rattle.mu_model.specs.declared.config.Config.{Config}
use Rattle.mu_model.specs.declared.event.Event.{Event}
use Rattle.mu_model.specs.Histories.{history, part}
use Rattle.mu_model.specs.Legal.{IsLegal}
use Rattle.mu_model.specs.Reasons.{IsReason}
use Rattle.mu_outcome.specs.declared.fault.Broken.{Broken}
use Rattle.mu_outcome.specs.declared.fault.Fault.{Fault}
use Rattle.mu_outcome.specs.declared.verdict.Wrong.{Wrong}
use Rattle.mu_outcome.specs.Verdicts.{IsWrong}

-- a fault without its reason
abbrev pub cause_of : Fault → Wrong
cause_of (Fault.NotAllowed reason) = Wrong.NotAllowed
cause_of (Fault.WrongAnswer expected) = Wrong.WrongAnswer expected

-- the fault of the event after the history: the first point that its verb doesn't meet; or, if the
-- verb meets all, its answer, if another one is defined
abbrev pub IsFault : Config → List Event → Event → Fault → Type 0
IsFault c past e (Fault.NotAllowed reason) = IsReason c e.by (part e.by past) e.verb reason
IsFault c past e (Fault.WrongAnswer expected) = IsWrong c past e (Wrong.WrongAnswer expected)

-- the events before this one are legal, and this is what is wrong with it
pub record IsBroken (c : Config) (events : List Event) (broken : Broken) : Type 0 where
  pub there : slice_get events broken.index ≡ Some broken.event
  pub before : IsLegal c (take broken.index events)
  pub fault : IsFault c (history (take broken.index events)) broken.event broken.fault

-- the list is legal, or this is where it breaks and why
abbrev pub Explains : Config → List Event → Option Broken → Type 0
Explains c events None = IsLegal c events
Explains c events (Some broken) = IsBroken c events broken

-- how many events are taken of those before `to`, if this is where the list breaks
abbrev pub reached : Option Broken → ℕ → ℕ
reached None to = to
reached (Some broken) to = broken.index
