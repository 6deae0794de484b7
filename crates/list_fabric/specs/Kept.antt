-- kept list: what a fabric of lists keeps.
use Rattle.std.specs.Prelude.{ℕ, ◌+◌, ◌*◌, ◌<◌, ◌≡◌, ◌≤◌, List, length}
use Rattle.mu_model.specs.declared.config.Config.{Config}
use Rattle.mu_model.specs.declared.event.Event.{Event}
use Rattle.mu_model.specs.Histories.{history}
use Rattle.mu_model.specs.Legal.{IsLegal}
use Rattle.mu_regions.specs.Stands.{Stands}
use Rattle.mu_regions.specs.declared.regions.Regions.{Regions}

-- the list is legal, there is room for just the budgets of all replicas, and the regions stand for
-- the list
pub record IsListKept (config : Config) (events : List Event) (room : ℕ)
    (regions : Regions) : Type 0 where
  pub few : config.replicas ≤ 7
  pub short : config.budget ≤ 131071
  pub legal : IsLegal config events
  pub room_left : length events + room ≡ config.replicas * config.budget
  pub stands : Stands config (history events) regions
