use Rattle.std.proofs.Common.{◌∙◌}
use Rattle.mu_library.proofs.EngineTraces.{parts_fit}
use Rattle.mu_library.proofs.traces.put_lines.Goals as goal

pub write_trace-written-requires : goal.write_trace-written-requires
write_trace-written-requires c =
    parts_fit c.args.engine.now _ _ (record { stops = c.from_vec.result; pauses = c.from_vec-2.result }) _
    (record {
      config_is = c.config.ensures.config;
      commands_are = c.commands.ensures;
      no_stops = c.from_vec.ensures ∙ c.new.ensures.items;
      no_pauses = c.from_vec-2.ensures ∙ c.new-2.ensures.items;
      no_script = c.is_within_limits.ensures.script;
      events_are = c.events.ensures.events;
    })
    c.events.ensures.moment c.is_within_limits.ensures.few
