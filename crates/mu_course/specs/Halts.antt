-- halt: the end or the pause of a replica after a step.
use Rattle.std.specs.Prelude.{ℕ, Bool, ◌==◌, ◌&&◌, if◌then◌else◌, None, Some, List, [], ◌∷◌}
use Rattle.std.specs.declared.option.Option.{Option}
use Rattle.mu_model.specs.declared.config.Config.{Config}
use Rattle.mu_model.specs.declared.script.Pause.{Pause}
use Rattle.mu_model.specs.declared.script.Script.{Script}
use Rattle.mu_model.specs.Ends.{stops_at}
use Rattle.mu_course.specs.declared.halts.Halt.{Halt}

-- the pause of r after this many steps
abbrev pub pause_at : ℕ → ℕ → List Pause → Option Halt
pause_at r steps [] = None
pause_at r steps (pause ∷ pauses) =
    if (pause.replica == r) && (pause.steps == steps) then Some (Halt.Pause pause.rounds)
    else pause_at r steps pauses

-- the script stops r after this many steps, or its budget is spent, or it finishes by the last of
-- them, or the script passes it over
abbrev pub halt_after : Config → Script → ℕ → ℕ → Bool → Option Halt
halt_after c script r steps finishes =
    if stops_at r steps script.stops then Some Halt.Stop
    else if steps == c.budget then Some Halt.Spent
    else if finishes then Some Halt.Finish
    else pause_at r steps script.pauses
