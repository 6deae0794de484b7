-- names the first, spends budgets: in a replay whose script has no pause, which leader the replicas
-- name, and that none is outrun; without a script line each spends its budget if a command is
-- missing.
use Rattle.std.specs.Prelude.{List, Some, [], true, ℕ, ◌++◌, ◌<◌, ◌==◌, ◌∷◌, ◌≡◌}
use Rattle.std.specs.List.{slice_get}
use Rattle.mu_model.specs.declared.config.Config.{Config}
use Rattle.mu_model.specs.declared.event.Event.{Event}
use Rattle.mu_model.specs.declared.event.Verb.{Verb}
use Rattle.mu_model.specs.declared.script.End.{End}
use Rattle.mu_model.specs.Histories.{has}
use Rattle.mu_model.specs.Journals.{Record}
use Rattle.mu_model.specs.Scores.{leader}
use Rattle.mu_outcome.specs.declared.outcome.Outcome.{Outcome}
use Rattle.mu_outcome.specs.Completion.{HasAllCommands}
use Rattle.mu_cluster.specs.Rounds.{part_of}

-- the list comes to this event before replica 0 has ended: it makes the event, or a later one
pub record IsReached (events earlier : List Event) (e : Event) : Type 0 where
  pub later : List Event
  pub is : events ≡ earlier ++ e ∷ later
  pub left : has (λ f. f.by == 0) (e ∷ later) ≡ true

-- the list has come so far, and replica 0 hasn't ended: it makes a later event
pub record IsBeforeEnd (events earlier : List Event) : Type 0 where
  pub later : List Event
  pub is : events ≡ earlier ++ later
  pub left : has (λ f. f.by == 0) later ≡ true

-- until replica 0 has ended, each replica names it leader, also after its own last event, and no
-- other asks
pub record NamesFirst (c : Config) (events : List Event) : Type 0 where
  pub named :
      (earlier : List Event) (r : ℕ) → IsBeforeEnd events earlier → r < c.replicas
      → leader c r (part_of r earlier) ≡ 0
  pub asks :
      (earlier : List Event) (e : Event) (p : ℕ) → IsReached events earlier e
      → e.verb ≡ Verb.Ask p → e.by ≡ 0

-- the same of the outcome's order of events if its script has no pause, as if it had no line
abbrev pub NamesFirstUnpaused : Outcome → Type 0
NamesFirstUnpaused o =
    o.job.script.pauses ≡ [] → (order : Record) → o.order ≡ Some order
    → NamesFirst o.job.config order.events

-- no replica was outrun if its script has no pause
abbrev pub NoneOutrunUnpaused : Outcome → Type 0
NoneOutrunUnpaused o =
    o.job.script.pauses ≡ [] → (r p i : ℕ) → r < o.job.config.replicas
    → slice_get o.ends r ≡ Some (End.Outrun p i) → ⊥

-- so if its script has no line and some command is missing, every replica spent its budget
pub record SpendsBudgets (o : Outcome) : Type 0 where
  pub none_outrun : NoneOutrunUnpaused o
  pub spent :
      o.job.script.pauses ≡ [] → o.job.script.stops ≡ [] → ¬ HasAllCommands o
      → (r : ℕ) → r < o.job.config.replicas → slice_get o.ends r ≡ Some End.Budget
