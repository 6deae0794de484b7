-- The lines of an engine's trace are those of its parts, and its bytes can be counted.
use Rattle.std.proofs.Common.{◌≡◌, ◌*◌, ◌+◌, ◌<◌, ◌≤◌, ◌^◌, ◌∙◌, ℕ, List, [], ap, arith, length, subst, sym}
use Rattle.kv_store.specs.Commands.{Request}
use Rattle.mu_engine.specs.Live.{Live}
use Rattle.mu_engine.specs.Moments.{IsMoment}
use Rattle.mu_engine.specs.Shapes.{no_script as none}
use Rattle.mu_input.specs.JobLines.{lines_of_trace}
use Rattle.mu_model.specs.declared.config.Config.{Config}
use Rattle.mu_model.specs.declared.event.Event.{Event}
use Rattle.mu_model.specs.declared.script.Script.{Script}
use Rattle.mu_report.proofs.Traces.{legal_fits}
use Rattle.mu_report.specs.Trace.{lines_of_parts}
use Rattle.mu_report.specs.declared.line.TheConstants.{LINE_BYTES}

-- the parts that a trace is printed from are an engine's
pub record ArePartsOf (live : Live) (config : Config) (commands : List Request) (script : Script)
    (events : List Event) : Type 0 where
  pub config_is : config ≡ live.job.config
  pub commands_are : commands ≡ live.job.commands
  pub no_stops : script.stops ≡ []
  pub no_pauses : script.pauses ≡ []
  pub no_script : live.job.script ≡ none
  pub events_are : events ≡ live.events

-- their lines are those of the engine's trace
same_lines : (live : Live) (config : Config) (commands : List Request) (script : Script) (events : List Event) → ArePartsOf live config commands script events
    → lines_of_parts config commands script events ≡ lines_of_trace live.job live.events
same_lines live config commands script events are =
    let parts = lines_of_parts live.job.config live.job.commands in
    ap (λ c. lines_of_parts c commands script events) are.config_is
    ∙ ap (λ l. lines_of_parts live.job.config l script events) are.commands_are
    ∙ ap (λ stops. parts (record { stops = stops; pauses = script.pauses }) events) are.no_stops
    ∙ ap (λ pauses. parts (record { stops = []; pauses = pauses }) events) are.no_pauses
    ∙ ap (λ s. parts s events) (sym are.no_script)
    ∙ ap (λ l. parts live.job.script l) are.events_are

-- and its bytes can be counted
pub parts_fit : (live : Live) (config : Config) (commands : List Request) (script : Script) (events : List Event) → ArePartsOf live config commands script events
    → IsMoment live.job live.events → length live.job.commands + live.room ≤ 1500 → LINE_BYTES * length (lines_of_parts config commands script events) < 2 ^ 64
parts_fit live config commands script events are moment few =
    let nothing : length live.job.script.stops + length live.job.script.pauses ≡ 0 = ap (λ (s : Script). length s.stops + length s.pauses) are.no_script in
    subst (λ (lines : List (List ℕ)). LINE_BYTES * length lines < 2 ^ 64) (sym (same_lines live config commands script events are))
    (legal_fits live.job live.events moment.config moment.heads (omega (arith, few)) (omega (arith, nothing)) moment.legal)
