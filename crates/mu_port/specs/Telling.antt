-- told list, step: the events of all replicas, which a port tells, in a legal list; and the list
-- after a step.
use Rattle.std.specs.Prelude.{List, None, Some, [], ℕ, ◌++◌, ◌∷◌, ◌≡◌}
use Rattle.std.specs.declared.option.Option.{Option}
use Rattle.mu_model.specs.declared.config.Config.{Config}
use Rattle.mu_model.specs.declared.event.Answer.{Answer}
use Rattle.mu_model.specs.declared.event.Event.{Event}
use Rattle.mu_model.specs.declared.event.Verb.{Verb}
use Rattle.mu_model.specs.Answers.{answer_of}
use Rattle.mu_model.specs.Histories.{history, part}
use Rattle.mu_model.specs.Legal.{IsLegal}

-- the list is legal, and these are the events of r in it, newest first
pub record IsPartOf (c : Config) (r : ℕ) (mine events : List Event) : Type 0 where
  pub legal : IsLegal c events
  pub is : part r (history events) ≡ mine

-- the same of the list, if one is told
abbrev pub FitsTold : Config → ℕ → List Event → Option (List Event) → Type 0
FitsTold c r mine None = Unit {0}
FitsTold c r mine (Some events) = IsPartOf c r mine events

-- a step of r after the list: its event is at the end of the next list, and its answer is what
-- the list before makes it
pub record IsStep (c : Config) (r : ℕ) (events : List Event) (after : Option (List Event))
    (verb : Verb)
    (answer : Answer) : Type 0 where
  pub list : after ≡ Some (events ++ (record { by = r; verb = verb; answer = answer }) ∷ [])
  pub answer_is : answer ≡ answer_of c r (history events) verb

-- if a list is told before the step, the list after it is told too; if none is, none is
abbrev pub Tells : Config → ℕ → Option (List Event) → Option (List Event) → Verb → Answer → Type 0
Tells c r None after verb answer = after ≡ None
Tells c r (Some events) after verb answer = IsStep c r events after verb answer
