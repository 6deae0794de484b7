-- parts, possible: the events of a list by replica; a part of some legal list.
use Rattle.std.specs.Prelude.{List, Some, false, length, nat_lt, not, ℕ, ◌<◌, ◌≡◌}
use Rattle.std.specs.List.{slice_get}
use Rattle.mu_model.specs.declared.config.Config.{Config}
use Rattle.mu_model.specs.declared.event.Event.{Event}
use Rattle.mu_model.specs.Histories.{has, history, part}
use Rattle.mu_model.specs.Legal.{IsLegalHistory}

-- the list has these parts, one for each replica, and no event of another
pub record HasParts (c : Config) (events : List Event) (parts : List (List Event)) : Type 0 where
  pub count : length parts ≡ c.replicas
  pub each : (r : ℕ) → r < c.replicas → slice_get parts r ≡ Some (part r events)
  pub whole : has (λ e. not (nat_lt e.by c.replicas)) (history events) ≡ false

-- some legal history has this part of r
pub record IsPossible (c : Config) (r : ℕ) (mine : List Event) : Type 0 where
  pub past : List Event
  pub legal : IsLegalHistory c past
  pub is : part r past ≡ mine
