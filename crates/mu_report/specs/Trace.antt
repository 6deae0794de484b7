-- trace text: the trace of a run, as lines without their ends: those of its job, and its events
-- in their order.
use Rattle.std.specs.Prelude.{ℕ, ◌*◌, ◌<◌, ◌^◌, List, [], ◌∷◌, ◌++◌, codes, length, None, Some}
use Rattle.std.specs.declared.option.Option.{Option}
use Rattle.kv_store.specs.Commands.{Request}
use Rattle.mu_model.specs.declared.config.Config.{Config}
use Rattle.mu_model.specs.declared.event.Event.{Event}
use Rattle.mu_model.specs.declared.script.Script.{Script}
use Rattle.mu_model.specs.Journals.{Record}
pub use Rattle.mu_events.specs.Lines.{event_line, verb_words}
pub use Rattle.mu_input.specs.JobLines.{batch_lines, client_count, client_lines, command_lines, commands_lines, has_lines, pause_line, script_lines, setting_lines, stop_line}
use Rattle.mu_input.specs.JobLines.{lines_of_trace}
use Rattle.mu_outcome.specs.AllEvents.{HasEvents}
use Rattle.mu_outcome.specs.declared.outcome.Outcome.{Outcome}
use Rattle.mu_report.specs.declared.line.TheConstants.{LINE_BYTES}

-- the events in their order, if it is given
abbrev pub events_of : Option Record → List Event
events_of None = []
events_of (Some journal) = journal.events

-- the lines of a job, given by its parts
abbrev pub job_lines : Config → List Request → Script → List (List ℕ)
job_lines config commands script =
    setting_lines config
    ++ (client_lines commands 0 (client_count 0 commands)
    ++ (script_lines script ++ codes "end" ∷ []))

-- the trace of a job, given by its parts
abbrev pub lines_of_parts : Config → List Request → Script → List Event → List (List ℕ)
lines_of_parts config commands script events =
    lines_of_trace (record { config = config; commands = commands; script = script }) events

-- the whole trace
abbrev pub trace_lines : Outcome → List (List ℕ)
trace_lines o = lines_of_trace o.job (events_of o.order)

-- the events are given, and the bytes of the trace can be counted in 64 bits
abbrev pub IsCountable : Outcome → Type 0
IsCountable o = HasEvents o × (LINE_BYTES * length (trace_lines o) < 2 ^ 64)
