-- job lines: a job and a trace as lines, without their ends.
use Rattle.std.specs.Prelude.{ℕ, zero, suc, if◌then◌else◌, ◌+◌, ◌==◌, ◌||◌, nat_lt, nat_le, Bool, List, [], ◌∷◌, ◌++◌, length, map, codes}
use Rattle.std.specs.Fmt.{decimal}
use Rattle.kv_store.specs.Commands.{Request}
use Rattle.kv_store.specs.Kinds.{name_of_kind, parts_of, texts_of}
use Rattle.kv_store.specs.declared.command.Op.{Op}
use Rattle.mu_events.specs.Lines.{after_spaces, event_line}
use Rattle.mu_model.specs.declared.config.Config.{Config}
use Rattle.mu_model.specs.declared.event.Event.{Event}
use Rattle.mu_model.specs.declared.script.Pause.{Pause}
use Rattle.mu_model.specs.declared.script.Script.{Script}
use Rattle.mu_model.specs.declared.script.Stop.{Stop}
use Rattle.mu_input.specs.declared.job.Job.{Job}

-- the words of an operation: its name, its key and its texts
abbrev pub op_words : Op → List ℕ
op_words op =
    name_of_kind (parts_of op).kind
    ++ after_spaces ((parts_of op).key ∷ texts_of (parts_of op).arguments)

-- the line of the most commands of a batch, which only version 2 has
abbrev pub batch_lines : Config → List (List ℕ)
batch_lines config =
    if config.version == 2 then (codes "batch " ++ decimal config.width) ∷ [] else []

-- the first lines of a job
abbrev pub setting_lines : Config → List (List ℕ)
setting_lines config =
    (codes "mu " ++ decimal config.version) ∷ (codes "replicas " ++ decimal config.replicas)
    ∷ (codes "ring " ++ decimal config.ring) ∷ (codes "budget " ++ decimal config.budget)
    ∷ batch_lines config

-- one more than the greatest client of these commands, and at least the count so far
abbrev pub client_count : ℕ → List Request → ℕ
client_count count [] = count
client_count count (command ∷ commands) =
    client_count (if nat_le count command.client then command.client + 1 else count) commands

-- the line of a command, if it is one of this client
abbrev pub command_lines : ℕ → Request → List (List ℕ)
command_lines client command = if command.client == client then op_words command.op ∷ [] else []

-- the lines of the commands of a client
abbrev pub commands_lines : ℕ → List Request → List (List ℕ)
commands_lines client [] = []
commands_lines client (command ∷ commands) =
    command_lines client command ++ commands_lines client commands

-- the lines of this many clients, each with its commands; the first is this client
abbrev pub client_lines : List Request → ℕ → ℕ → List (List ℕ)
client_lines commands client zero = []
client_lines commands client (suc clients) =
    ((codes "client " ++ decimal client) ∷ commands_lines client commands)
    ++ client_lines commands (client + 1) clients

-- the line of a stop
abbrev pub stop_line : Stop → List ℕ
stop_line stop = codes "stop " ++ decimal stop.replica ++ codes " " ++ decimal stop.steps

-- the line of a pause
abbrev pub pause_line : Pause → List ℕ
pause_line pause =
    codes "pause " ++ decimal pause.replica ++ codes " " ++ decimal pause.steps ++ codes " "
    ++ decimal pause.rounds

-- the script has a line
abbrev pub has_lines : Script → Bool
has_lines script = nat_lt 0 (length script.stops) || nat_lt 0 (length script.pauses)

-- the lines of the script, if it has any
abbrev pub script_lines : Script → List (List ℕ)
script_lines script =
    if has_lines script
    then codes "script" ∷ (map stop_line script.stops ++ map pause_line script.pauses) else []

-- the lines of the whole trace of a job and events
abbrev pub lines_of_trace : Job → List Event → List (List ℕ)
lines_of_trace job events = setting_lines job.config
    ++ (client_lines job.commands 0 (client_count 0 job.commands)
    ++ (script_lines job.script
    ++ (codes "end" ∷ (map event_line events ++ codes "end" ∷ []))))
