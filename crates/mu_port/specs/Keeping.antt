-- kept, held: a memory that tells its list, as contracts see it; and what a port holds of it.
use Rattle.std.specs.Prelude.{List, ℕ, ◌<◌}
use Rattle.mu_model.specs.declared.config.Config.{Config}
use Rattle.mu_model.specs.declared.event.Event.{Event}
use Rattle.mu_model.specs.Legal.{IsLegal}

-- the configuration, the events of all replicas in true order, and for how many rows there is room
pub record Kept : Type 0 where
  pub config : Config
  pub events : List Event
  pub row_limit : ℕ

-- the replica that steps through a port, and what the memory that it holds keeps
pub record Held : Type 0 where
  pub replica : ℕ
  pub config : Config
  pub events : List Event
  pub row_limit : ℕ

-- there is such a replica, and the list is legal
pub record IsHeld (replica : ℕ) (config : Config) (events : List Event) : Type 0 where
  pub inside : replica < config.replicas
  pub legal : IsLegal config events
