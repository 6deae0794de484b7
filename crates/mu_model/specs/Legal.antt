-- legal: a list of events, each allowed by its replica's own events, and answered as the history
-- makes it.
use Rattle.std.specs.Prelude.{List, [], ◌∷◌, ◌≡◌}
use Rattle.mu_model.specs.declared.config.Config.{Config}
use Rattle.mu_model.specs.declared.event.Event.{Event}
use Rattle.mu_model.specs.Allowed.{Allowed}
use Rattle.mu_model.specs.Answers.{answer_of}
use Rattle.mu_model.specs.Histories.{history, part}

-- the event may come after the history, and its answer is what the history makes it
pub record MayFollow (c : Config) (past : List Event) (e : Event) : Type 0 where
  pub allowed : Allowed c e.by (part e.by past) e.verb
  pub answer : e.answer ≡ answer_of c e.by past e.verb

-- a history is legal: each event may come after what was before it
abbrev pub IsLegalHistory : Config → List Event → Type 0
IsLegalHistory c [] = Unit {0}
IsLegalHistory c (e ∷ past) = IsLegalHistory c past × MayFollow c past e

-- a list of events in true order is legal
abbrev pub IsLegal : Config → List Event → Type 0
IsLegal c events = IsLegalHistory c (history events)
