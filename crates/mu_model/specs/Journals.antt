-- record: a journal as contracts see it.
use Rattle.std.specs.Prelude.{ℕ, List}
use Rattle.mu_model.specs.declared.event.Event.{Event}

-- the events in true order, and how many more there is room for
pub record Record : Type 0 where
  pub events : List Event
  pub room : ℕ
