-- script: the stops and pauses of a job.
use Rattle.std.specs.Prelude.{ℕ, zero, suc, ◌+◌, ◌==◌, nat_lt, Bool, true, not, ◌&&◌, ◌||◌, List, [], ◌∷◌, ◌++◌, length, codes, None, Some, if◌then◌else◌}
use Rattle.std.specs.declared.option.Option.{Option}
use Rattle.std.specs.Str.{bytes_eq}
use Rattle.mu_model.specs.declared.script.Stop.{Stop}
use Rattle.mu_model.specs.declared.script.Pause.{Pause}
use Rattle.mu_model.specs.declared.script.Script.{Script}
use Rattle.mu_model.specs.Stops.{is_stopped}
use Rattle.mu_text.specs.Lines.{Left, is_alone, words}
use Rattle.mu_text.specs.Numbers.{below, number_of, within}
use Rattle.mu_input.specs.Readings.{Front, Begins, Breaks, Line, Says, Wrong}
use Rattle.mu_input.specs.declared.TheConstants.{MOST_STEPS, MOST_ROUNDS, MOST_SCRIPT_LINES}
use Rattle.mu_input.specs.declared.cause.TheConstants.{SCRIPT, TOO_MANY, NO_END}
use Rattle.mu_input.specs.declared.scripts.ScriptLine.{ScriptLine}
use Rattle.mu_input.specs.declared.scripts.ScriptLine.TheVariants as line

-- the stop of a replica after this many steps, if it has none yet
abbrev pub another_stop : List Stop → Option ℕ → Option ℕ → Option Stop
another_stop stops (Some r) (Some k) =
    if is_stopped r stops then None else Some (record { replica = r; steps = k })
another_stop stops _ _ = None

-- a line `stop R K` after these stops
abbrev pub stop_line : ℕ → List Stop → List (List ℕ) → Option Stop
stop_line replicas stops (name ∷ r ∷ k ∷ []) =
    if bytes_eq name (codes "stop")
    then another_stop stops (below replicas (number_of r)) (within 0 MOST_STEPS (number_of k))
    else None
stop_line replicas stops _ = None

-- each of these pauses that is of replica r comes after fewer than k steps
abbrev pub pauses_before : ℕ → ℕ → List Pause → Bool
pauses_before r k [] = true
pauses_before r k (pause ∷ pauses) =
    (not (pause.replica == r) || nat_lt pause.steps k) && pauses_before r k pauses

-- the pause of a replica after this many steps, for this many rounds, if it comes after its earlier
-- ones
abbrev pub another_pause : List Pause → Option ℕ → Option ℕ → Option ℕ → Option Pause
another_pause pauses (Some r) (Some k) (Some m) =
    if pauses_before r k pauses then Some (record { replica = r; steps = k; rounds = m }) else None
another_pause pauses _ _ _ = None

-- a line `pause R K M` after these pauses
abbrev pub pause_line : ℕ → List Pause → List (List ℕ) → Option Pause
pause_line replicas pauses (name ∷ r ∷ k ∷ m ∷ []) =
    if bytes_eq name (codes "pause")
    then another_pause pauses (below replicas (number_of r)) (within 0 MOST_STEPS (number_of k))
    (within 1 MOST_ROUNDS (number_of m))
    else None
pause_line replicas pauses _ = None

-- the line is one of the two
abbrev pub stop_or_pause : Option Stop → Option Pause → Option ScriptLine
stop_or_pause (Some stop) pause = Some (line.Stop stop)
stop_or_pause None (Some pause) = Some (line.Pause pause)
stop_or_pause None None = None

-- it is judged before there is room for it after this many lines
abbrev pub with_room : ℕ → Option ScriptLine → Line ScriptLine
with_room count None = Wrong SCRIPT
with_room count (Some said) = if nat_lt count MOST_SCRIPT_LINES then Says said else Wrong TOO_MANY

-- what a line says after these stops and pauses of this number of replicas
abbrev pub script_line : ℕ → List Stop → List Pause → List (List ℕ) → Line ScriptLine
script_line replicas stops pauses words =
    if is_alone (codes "end") words then Says line.End
    else with_room (length stops + length pauses)
    (stop_or_pause (stop_line replicas stops words) (pause_line replicas pauses words))

-- the stops of replica r
abbrev pub stops_of : ℕ → List Stop → List Stop
stops_of r [] = []
stops_of r (stop ∷ stops) = if stop.replica == r then stop ∷ stops_of r stops else stops_of r stops

-- the stops of the first replicas, replica by replica
abbrev pub stops_in_order : ℕ → List Stop → List Stop
stops_in_order zero stops = []
stops_in_order (suc r) stops = stops_in_order r stops ++ stops_of r stops

-- the pauses of replica r, in the order of the file, which is that of their steps
abbrev pub pauses_of : ℕ → List Pause → List Pause
pauses_of r [] = []
pauses_of r (pause ∷ pauses) =
    if pause.replica == r then pause ∷ pauses_of r pauses else pauses_of r pauses

-- the pauses of the first replicas, replica by replica
abbrev pub pauses_in_order : ℕ → List Pause → List Pause
pauses_in_order zero pauses = []
pauses_in_order (suc r) pauses = pauses_in_order r pauses ++ pauses_of r pauses

-- the script of these stops and pauses
abbrev pub script_of : ℕ → List Stop → List Pause → Script
script_of replicas stops pauses =
    record { stops = stops_in_order replicas stops; pauses = pauses_in_order replicas pauses }

-- the line says this, and `again` reads the lines after it with the stops and pauses then
abbrev pub script_after :
    ℕ → List Stop → List Pause → ℕ → Left → (List Stop → List Pause → Front Script)
    → Line ScriptLine → Front Script
script_after replicas stops pauses number left again (Says (line.Stop stop)) =
    again (stops ++ stop ∷ []) pauses
script_after replicas stops pauses number left again (Says (line.Pause pause)) =
    again stops (pauses ++ pause ∷ [])
script_after replicas stops pauses number left again (Says line.End) =
    Begins (script_of replicas stops pauses) left
script_after replicas stops pauses number left again (Wrong cause) = Breaks number cause

-- the script that the lines from `number` on give, after these stops and pauses
abbrev pub script_from : ℕ → List Stop → List Pause → ℕ → List (List ℕ) → Front Script
script_from replicas stops pauses number [] = Breaks number NO_END
script_from replicas stops pauses number (text ∷ lines) =
    script_after replicas stops pauses number (record { number = number + 1; lines = lines })
    (λ stops pauses. script_from replicas stops pauses (number + 1) lines)
    (script_line replicas stops pauses (words text))

-- the script at the front of the lines that are left, if one follows, and else an empty one
abbrev pub script_at : Bool → ℕ → Left → Front Script
script_at follows replicas left =
    if follows then script_from replicas [] [] left.number left.lines
    else Begins (record { stops = []; pauses = [] }) left
