-- inside: the fields of an engine, what its model shows of them, and what holds of them.
use Rattle.std.specs.Prelude.{length, map, vec_capacity, ◌+◌, ◌≡◌, ◌≤◌}
use Rattle.mu_engine.specs.declared.engine.Engine.TheInside as engine
use Rattle.mu_engine.specs.Live.{Live}
use Rattle.mu_engine.specs.Moments.{IsMoment}
use Rattle.mu_engine.specs.Seats.{AreSeated, hold_of}
use Rattle.mu_engine.specs.Shapes.{no_script}

abbrev pub live_of : engine.Inside → Live
live_of e = record {
  job = record { config = e.config; commands = e.commands.items; script = no_script };
  room = e.room;
  events = e.port.events;
  holds = map hold_of e.seats.items;
}

-- the memory has the configuration, and exactly the room for the commands that may come; the
-- events are a legal list of the commands, each of which is a batch of its own; and the nodes live
-- for them
pub record IsEngine (e : engine.Inside) : Type 0 where
  pub moment : IsMoment (live_of e).job e.port.events
  pub width : e.config.width ≡ 1
  pub same : e.port.config ≡ e.config
  pub seated : AreSeated e.config e.port.events e.seats.items
  pub space : length e.commands.items + e.room ≡ vec_capacity e.commands
  pub few : length e.commands.items + e.room ≤ 1500
  pub limit : length e.commands.items + e.room ≡ e.port.row_limit
