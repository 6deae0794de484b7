-- The lines of a trace, taken from the front.
use Rattle.std.proofs.Common.{◌≡◌, ℕ, zero, suc, ◌+◌, ◌*◌, ◌-◌, ◌<◌, ◌≤◌, ◌^◌, ◌==◌, Bool, true, false, cond, List, [], ◌∷◌, ◌++◌, refl, sym, ap, subst, ◌∙◌, length, drop, map, get_or, arith, append_assoc, length-append}
use Rattle.std.specs.Fmt.{decimal}
use Rattle.std.specs.Prelude.{codes, is_some, nat_le, ◌||◌}
use Rattle.std.proofs.lemmas.List.{drop_more, length-map, length-reverse}
use Rattle.std.proofs.Math.Nat.{mul-le-mul_left}
use Rattle.kv_store.specs.Commands.{Request}
use Rattle.mu_input.specs.Heads.{HaveHeads}
use Rattle.mu_input.specs.JobLines.{lines_of_trace}
use Rattle.mu_input.specs.declared.job.Job.{Job}
use Rattle.mu_model.specs.Contents.{IsConfig}
use Rattle.mu_model.specs.Histories.{history}
use Rattle.mu_model.specs.Legal.{IsLegal}
use Rattle.mu_model.specs.declared.config.Config.{Config}
use Rattle.mu_model.specs.declared.config.Row.{Row}
use Rattle.mu_model.specs.declared.event.Event.{Event}
use Rattle.mu_model.specs.declared.script.Pause.{Pause}
use Rattle.mu_model.specs.declared.script.Script.{Script}
use Rattle.mu_model.specs.declared.script.Stop.{Stop}
use Rattle.mu_model.proofs.Budgets.{short_history}
use Rattle.mu_outcome.specs.declared.outcome.Outcome.{Outcome}
use Rattle.mu_outcome.specs.Outcomes.{IsRun}
use Rattle.mu_report.specs.Words.{op_words}
use Rattle.mu_report.specs.declared.line.TheConstants.{LINE_BYTES}
use Rattle.mu_report.specs.Trace.{has_lines, event_line, setting_lines, client_count, client_lines, command_lines, commands_lines, stop_line, pause_line, script_lines, events_of, job_lines, lines_of_parts, IsCountable}

-- the lines of the next client, and those of the others
pub client_lines-next : (commands : List Request) (client count : ℕ) → client < count
    → client_lines commands client (count - client) ≡ ((codes "client " ++ decimal client) ∷ commands_lines client commands) ++ client_lines commands (client + 1) (count - (client + 1))
client_lines-next commands client count below =
    let next : count - client ≡ suc (count - (client + 1)) = omega arith in
    ap (client_lines commands client) next

-- the next command, if it is of this client, and the others
pub commands_lines-drop : (client : ℕ) (commands : List Request) (i : ℕ) (command : Request) → i < length commands → command ≡ get_or commands i command
    → commands_lines client (drop i commands) ≡ command_lines client command ++ commands_lines client (drop (i + 1) commands)
commands_lines-drop client commands i command within is =
    ap (commands_lines client) (drop_more commands i command within) ∙ ap (λ c. command_lines client c ++ commands_lines client (drop (i + 1) commands)) (sym is)

length-one : (b : Bool) (line : List ℕ) → length (cond b (line ∷ []) []) ≤ 1
length-one true line = omega arith
length-one false line = omega arith

length-commands_lines : (client : ℕ) (commands : List Request) → length (commands_lines client commands) ≤ length commands
length-commands_lines client [] = omega arith
length-commands_lines client (command ∷ commands) =
    omega (arith, length-one (command.client == client) (op_words command.op), length-commands_lines client commands, length-append (command_lines client command) (commands_lines client commands))

length-client_lines : (commands : List Request) (client count : ℕ) → length (client_lines commands client count) ≤ count * (length commands + 1)
length-client_lines commands client zero = omega arith
length-client_lines commands client (suc count) =
    omega (
      arith,
      length-client_lines commands (client + 1) count,
      length-commands_lines client commands,
      length-append ((codes "client " ++ decimal client) ∷ commands_lines client commands) (client_lines commands (client + 1) count),
    )

length-script_lines : (script : Script) → length (script_lines script) ≤ length script.stops + length script.pauses + 1
length-script_lines script = go (has_lines script)
  where
    both : length (map stop_line script.stops ++ map pause_line script.pauses) ≡ length script.stops + length script.pauses
    both = omega (arith, length-append (map stop_line script.stops) (map pause_line script.pauses), length-map script.stops stop_line, length-map script.pauses pause_line)

    go : (b : Bool) → length (cond b (codes "script" ∷ (map stop_line script.stops ++ map pause_line script.pauses)) []) ≤ length script.stops + length script.pauses + 1
    go true = omega (arith, both)
    go false = omega arith

clients_few : (clients commands : ℕ) → clients < 2 ^ 16 → commands < 2 ^ 15 → clients * (commands + 1) ≤ 2 ^ 32
clients_few clients commands few short =
    let bound : clients * (commands + 1) ≤ clients * 2 ^ 15 = mul-le-mul_left clients (omega arith) in
    omega arith

-- if the lists are short, the bytes of the trace can be counted
trace_fits : (job : Job) (events : List Event) → length job.commands < 2 ^ 15 → client_count 0 job.commands < 2 ^ 16
    → length job.script.stops < 2 ^ 16 → length job.script.pauses < 2 ^ 16 → length events < 2 ^ 32 → LINE_BYTES * length (lines_of_trace job events) < 2 ^ 64
trace_fits job events commands clients stops pauses few =
    let head : List (List ℕ) = setting_lines job.config in
    let asked : List (List ℕ) = client_lines job.commands 0 (client_count 0 job.commands) in
    let script : List (List ℕ) = script_lines job.script in
    let told : List (List ℕ) = map event_line events in
    let last : List (List ℕ) = codes "end" ∷ (told ++ codes "end" ∷ []) in
    let first : length head ≤ 5 = omega (arith, length-one (job.config.version == 2) (codes "batch " ++ decimal job.config.width)) in
    let second : length asked ≤ 2 ^ 32 = omega (arith, length-client_lines job.commands 0 (client_count 0 job.commands), clients_few (client_count 0 job.commands) (length job.commands) clients commands) in
    let third : length script ≤ 2 ^ 17 = omega (arith, length-script_lines job.script, stops, pauses) in
    let fourth : length last ≤ 2 ^ 32 + 2 = omega (arith, length-append told (codes "end" ∷ []), length-map events event_line, few) in
    let whole : length (lines_of_trace job events) ≡ length head + (length asked + (length script + length last)) =
    length-append head (asked ++ (script ++ last)) ∙ ap (λ n. length head + n) (length-append asked (script ++ last) ∙ ap (λ n. length asked + n) (length-append script last)) in
    omega (arith, first, second, third, fourth, whole)

-- there are at most 256 clients, since a head word has 8 bits for one
few_clients : (width count : ℕ) (commands : List Request) (rows : List Row) → HaveHeads width commands rows → count ≤ 256 → client_count count commands ≤ 256
few_clients width count [] rows have few = few
few_clients width count (command ∷ commands) [] have few = absurd have
few_clients width count (command ∷ commands) (row ∷ rows) have few =
    few_clients width (cond (nat_le count command.client) (command.client + 1) count) commands rows have.1 (next (nat_le count command.client))
  where
    next : (t : Bool) → cond t (command.client + 1) count ≤ 256
    next true = let client = have.0.client in omega (arith, client)
    next false = few

-- the bytes of the trace of a legal list can be counted
pub legal_fits : (job : Job) (events : List Event) → IsConfig job.config → HaveHeads job.config.width job.commands job.config.rows → length job.commands < 2 ^ 15
    → length job.script.stops + length job.script.pauses < 2 ^ 16 → IsLegal job.config events → LINE_BYTES * length (lines_of_trace job events) < 2 ^ 64
legal_fits job events good have few short legal =
    let clients : client_count 0 job.commands ≤ 256 = few_clients job.config.width 0 job.commands job.config.rows have (omega arith) in
    let turned : length (history events) ≡ length events = length-reverse events in
    let least : length (history events) ≤ 917497 = short_history job.config (history events) legal good.replicas.1 good.budget.1 in
    trace_fits job events few (omega (arith, clients)) (omega (arith, short)) (omega (arith, short)) (omega (arith, turned, least))

-- the events of a run are given, and the bytes of its trace can be counted
pub run_fits : (o : Outcome) → IsConfig o.job.config → HaveHeads o.job.config.width o.job.commands o.job.config.rows → length o.job.commands < 2 ^ 15
    → length o.job.script.stops + length o.job.script.pauses < 2 ^ 16 → IsRun o → IsCountable o
run_fits o good have few short run = (
  ap (λ order. is_some order || is_some o.gathered) run.given,
  subst (λ (events : List Event). LINE_BYTES * length (lines_of_trace o.job events) < 2 ^ 64) (ap events_of (sym run.given)) (legal_fits o.job run.order.events good have few short run.legal),
)

-- the clients of these commands, by their count
pub asked_clients : (commands others : List Request) (count : ℕ) → commands ≡ others → count ≡ client_count 0 commands → client_lines commands 0 count ≡ client_lines others 0 (client_count 0 others)
asked_clients commands others count is counted = ap (client_lines commands 0) counted ∙ ap (λ l. client_lines l 0 (client_count 0 l)) is

-- the events behind a job
pub behind_job : (config : Config) (commands : List Request) (script : Script) (events : List Event)
    → job_lines config commands script ++ (map event_line events ++ codes "end" ∷ []) ≡ lines_of_parts config commands script events
behind_job config commands script events =
    let first : List (List ℕ) = setting_lines config in
    let asked : List (List ℕ) = client_lines commands 0 (client_count 0 commands) in
    let told : List (List ℕ) = map event_line events ++ codes "end" ∷ [] in
    append_assoc first (asked ++ (script_lines script ++ codes "end" ∷ [])) told
    ∙ ap (λ l. first ++ l) (append_assoc asked (script_lines script ++ codes "end" ∷ []) told ∙ ap (λ l. asked ++ l) (append_assoc (script_lines script) (codes "end" ∷ []) told))

-- the script, if it has a line
pub lines_told : (script : Script) (stops : List Stop) (pauses : List Pause) → has_lines script ≡ true → stops ≡ script.stops → pauses ≡ script.pauses
    → codes "script" ∷ (map stop_line stops ++ map pause_line pauses) ≡ script_lines script
lines_told script stops pauses some is are = rw is (rw are (rw some refl))
