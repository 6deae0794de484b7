-- holds the present: what the era under way of an engine without an end holds, if these were the
-- eras before it.
use Rattle.std.specs.Prelude.{List, length, vec_capacity, ◌+◌, ◌≡◌, ◌≤◌}
use Rattle.kv_store.specs.Tables.{store}
use Rattle.mu_engine.specs.Laws.{order_after}
use Rattle.mu_engine.specs.Moments.{IsMoment}
use Rattle.mu_eras.specs.Applied.{TellsOrder}
use Rattle.mu_eras.specs.Eras.{AreEras, Era, order_of}
use Rattle.mu_eras.specs.Holding.{AreFollowed, AreInside, HoldStores}
use Rattle.mu_eras.specs.declared.present.Present.{Present}

-- the events are a legal list of the commands; the stores began with what the eras before left;
-- each reply that is kept is that of the order, and there is one to each command that was handed on
pub record HoldsPresent (past : List Era) (e : Present) : Type 0 where
  pub eras : AreEras past
  pub moment : IsMoment e.engine.job e.engine.events
  pub count : length e.stores.items ≡ length e.engine.holds
  pub places : length e.replies.items ≡ length e.engine.job.commands
  pub space : length e.replies.items + e.engine.room ≤ vec_capacity e.replies
  pub stores : HoldStores (store (order_of past)) e.engine e.stores.items
  pub told :
      TellsOrder (store (order_of past)) e.engine.job.commands
      (order_after e.engine.job e.engine.events) e.replies.items
  pub kept : AreFollowed e.engine e.replies.items

-- each replica has applied what the others have, from some table on, and there are as many places
-- for replies as commands, and room for more
pub record IsInside (e : Present) : Type 0 where
  pub count : length e.stores.items ≡ length e.engine.holds
  pub places : length e.replies.items ≡ length e.engine.job.commands
  pub space : length e.replies.items + e.engine.room ≤ vec_capacity e.replies
  pub stores : AreInside e.engine e.stores.items

-- the era under way
abbrev pub era_of : Present → Era
era_of e = record { job = e.engine.job; events = e.engine.events }
