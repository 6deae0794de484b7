-- What a trace is printed as is read back as its job and its events.
use Rattle.std.proofs.Common.{◌≡◌, ℕ, ◌+◌, ◌≤◌, nat_lt, Bool, true, false, cond, List, [], ◌∷◌, ◌++◌, length, map, codes, refl, sym, ap, subst, ◌∙◌, arith, append_assoc, append-nil}
use Rattle.std.specs.List.{All}
use Rattle.std.specs.Option.{option_map_or}
use Rattle.std.proofs.lemmas.Bool.Decides.{nat_tests}
use Rattle.std.proofs.lemmas.List.Elements.{All-append, All-cons, All-head, All-nil, All-tail}
use Rattle.kv_store.specs.Commands.{Request}
use Rattle.mu_model.specs.declared.event.Event.{Event}
use Rattle.mu_model.specs.declared.script.Script.{Script}
use Rattle.mu_text.specs.Lines.{Left, ended, words}
use Rattle.mu_text.proofs.SpelledWords.{IsOneLine, Spells-word, lines-ended, written}
use Rattle.mu_events.specs.Events.{event_of}
use Rattle.mu_events.specs.Lines.{IsSpelled, event_line}
use Rattle.mu_events.proofs.Spelled.{event-back, event_line-is_not, event_line-spells}
use Rattle.mu_input.specs.Bodies.{body_after, body_at, body_from}
use Rattle.mu_input.specs.Grammar.{all_lines, job, job_at, job_of}
use Rattle.mu_input.specs.JobLines.{client_count, client_lines, has_lines, lines_of_trace, pause_line, script_lines, setting_lines, stop_line}
use Rattle.mu_input.specs.Readings.{Front, Begins, Breaks, Fits, followed, whole}
use Rattle.mu_input.specs.Scripts.{script_at}
use Rattle.mu_input.specs.Settings.{HasLimits, settings_at}
use Rattle.mu_input.specs.Traces.{events_from, trace, trace_at}
use Rattle.mu_input.specs.declared.TheConstants.{MOST_REPLICAS}
use Rattle.mu_input.specs.declared.cause.TheConstants.{EVENT}
use Rattle.mu_input.specs.declared.bodies.Body.{Body}
use Rattle.mu_input.specs.declared.heading.Settings.{Settings}
use Rattle.mu_input.specs.declared.job.Job.{Job}
use Rattle.mu_input.proofs.BodyBack.{IsWritten, body_at-gives, client_lines-one}
use Rattle.mu_input.proofs.Fronts.{Gives, fits_whole, followed_by, gives_followed}
use Rattle.mu_input.proofs.OperationsBack.{end-back as body_end-back, script-back as body_script-back}
use Rattle.mu_input.proofs.ScriptBack.{IsScripted, pauses-one, script-back, script_at-gives, stops-one}
use Rattle.mu_input.proofs.SettingsBack.{first_lines, first_lines-one, settings_at-back, settings_at-gives}
use Rattle.std.proofs.lemmas.Bool.{or_parts}

-- a job as its bytes spell it: of settings within their limits, of commands and of a script
record IsJob (given : Job) : Type 0 where
  settings : Settings
  limits : HasLimits settings
  written : IsWritten given.commands
  scripted : IsScripted settings.replicas given.script
  made : job_of settings given.commands given.script ≡ given

job_at-gives : (left : Left) → Gives IsJob (job_at left)
job_at-gives left =
    gives_followed IsJob HasLimits (settings_at left) _ (settings_at-gives left) (λ settings left limits.
    gives_followed IsJob (λ (b : Body). IsWritten b.commands) (body_at left) _ (body_at-gives left) (λ body left written.
    gives_followed IsJob (IsScripted settings.replicas) (script_at body.has_script settings.replicas left) _ (script_at-gives body.has_script settings.replicas left) (λ script left scripted.
    record { settings = settings; limits = limits; written = written; scripted = scripted; made = refl })))

-- the commands and the script, after the settings
abbrev after_settings : Settings → Left → Front Job
after_settings settings left =
    followed (body_at left) (λ body left.
    followed (script_at body.has_script settings.replicas left) (λ script left.
    Begins (job_of settings body.commands script) left))

-- lines begin with the job, and these come after it
abbrev Ends : Job → List (List ℕ) → Front Job → Type 0
Ends given rest front = (number : ℕ) × (front ≡ Begins given (record { number = number; lines = rest }))

no_stops : {A : Type 0} (xs : List A) → nat_lt 0 (length xs) ≡ false → xs ≡ []
no_stops [] e = refl
no_stops (x ∷ xs) e = let few : length (x ∷ xs) ≤ 0 = grind (arith, nat_tests) in absurd (omega (arith, few))

nothing : (script : Script) → has_lines script ≡ false → (let made : Script = record { stops = []; pauses = [] } in made) ≡ script
nothing script none =
    let tests = or_parts (nat_lt 0 (length script.stops)) (nat_lt 0 (length script.pauses)) none in
    ap (λ stops. let made : Script = record { stops = stops; pauses = [] } in made) (sym (no_stops script.stops tests.0))
    ∙ ap (λ pauses. let made : Script = record { stops = script.stops; pauses = pauses } in made) (sym (no_stops script.pauses tests.1))

-- the lines of the commands and of the script are read back
commands-back : (settings : Settings) (commands : List Request) (script : Script) (number : ℕ) (rest : List (List ℕ)) → settings.replicas ≤ MOST_REPLICAS → IsWritten commands → IsScripted settings.replicas script
    → Ends (job_of settings commands script) rest (after_settings settings (record { number = number; lines = client_lines commands 0 (client_count 0 commands) ++ (script_lines script ++ (codes "end" ∷ rest)) }))
commands-back settings commands script number rest few written scripted = by_script (has_lines script) refl
  where
    by_script : (has : Bool) → has_lines script ≡ has
        → Ends (job_of settings commands script) rest (after_settings settings (record { number = number; lines = client_lines commands 0 (client_count 0 commands) ++ (script_lines script ++ (codes "end" ∷ rest)) }))
    by_script true has =
        let here = number + length (client_lines commands 0 (client_count 0 commands)) in
        let after = map stop_line script.stops ++ (map pause_line script.pauses ++ codes "end" ∷ rest) in
        let lines : client_lines commands 0 (client_count 0 commands) ++ (script_lines script ++ (codes "end" ∷ rest)) ≡ client_lines commands 0 (client_count 0 commands) ++ (codes "script" ∷ after) =
        ap (λ b. client_lines commands 0 (client_count 0 commands) ++ (cond b (codes "script" ∷ (map stop_line script.stops ++ map pause_line script.pauses)) [] ++ (codes "end" ∷ rest))) has
        ∙ ap (λ back. client_lines commands 0 (client_count 0 commands) ++ (codes "script" ∷ back)) (append_assoc (map stop_line script.stops) (map pause_line script.pauses) (codes "end" ∷ rest)) in
        let told : body_from 0 [] number (client_lines commands 0 (client_count 0 commands) ++ (codes "script" ∷ after)) ≡ Begins (record { commands = commands; has_script = true }) (record { number = here + 1; lines = after }) =
        written.reads number (codes "script" ∷ after)
        ∙ ap (body_after (client_count 0 commands) commands here (record { number = here + 1; lines = after }) (λ clients commands. body_from clients commands (here + 1) after)) (body_script-back (client_count 0 commands) (length commands)) in
        let read = script-back settings.replicas script.stops script.pauses (here + 1) rest few scripted.are in (
          here + 1 + length script.stops + length script.pauses + 1,
          ap (λ (lines : List (List ℕ)). after_settings settings (record { number = number; lines = lines })) lines
              ∙ followed_by _ _ _ _ _ told (followed_by _ _ _ _ _ read
              (ap (λ (ordered : Script). Begins (job_of settings commands ordered) (record { number = here + 1 + length script.stops + length script.pauses + 1; lines = rest })) scripted.ordered)),
        )
    by_script false has =
        let here = number + length (client_lines commands 0 (client_count 0 commands)) in
        let lines : client_lines commands 0 (client_count 0 commands) ++ (script_lines script ++ (codes "end" ∷ rest)) ≡ client_lines commands 0 (client_count 0 commands) ++ (codes "end" ∷ rest) =
        ap (λ b. client_lines commands 0 (client_count 0 commands) ++ (cond b (codes "script" ∷ (map stop_line script.stops ++ map pause_line script.pauses)) [] ++ (codes "end" ∷ rest))) has in
        let told : body_from 0 [] number (client_lines commands 0 (client_count 0 commands) ++ (codes "end" ∷ rest)) ≡ Begins (record { commands = commands; has_script = false }) (record { number = here + 1; lines = rest }) =
        written.reads number (codes "end" ∷ rest)
        ∙ ap (body_after (client_count 0 commands) commands here (record { number = here + 1; lines = rest }) (λ clients commands. body_from clients commands (here + 1) rest)) (body_end-back (client_count 0 commands) (length commands)) in (
          here + 1,
          ap (λ (lines : List (List ℕ)). after_settings settings (record { number = number; lines = lines })) lines
              ∙ followed_by _ _ _ _ _ told (ap (λ script. Begins (job_of settings commands script) (record { number = here + 1; lines = rest })) (nothing script has)),
        )

made-back : (settings : Settings) (commands : List Request) (script : Script) (rest : List (List ℕ)) → HasLimits settings → IsWritten commands → IsScripted settings.replicas script
    → Ends (job_of settings commands script) rest (job_at (record { number = 1; lines = first_lines settings ++ (client_lines commands 0 (client_count 0 commands) ++ (script_lines script ++ (codes "end" ∷ rest))) }))
made-back settings commands script rest limits written scripted =
    let after = commands-back settings commands script (1 + length (first_lines settings)) rest limits.replicas_most written scripted in
    (after.0, followed_by _ _ _ _ _ (settings_at-back settings 1 (client_lines commands 0 (client_count 0 commands) ++ (script_lines script ++ (codes "end" ∷ rest))) limits) after.1)

-- the lines of a job are read back as it
abbrev IsBack : List (List ℕ) → Job → Type 0
IsBack rest given = Ends given rest (job_at (record { number = 1; lines = setting_lines given.config ++ (client_lines given.commands 0 (client_count 0 given.commands) ++ (script_lines given.script ++ (codes "end" ∷ rest))) }))

job-back : (given : Job) (rest : List (List ℕ)) → IsJob given → IsBack rest given
job-back given rest is = subst (IsBack rest) is.made (made-back is.settings given.commands given.script rest is.limits is.written is.scripted)

-- the lines of events are read back, behind others
events-back : (replicas : ℕ) (done events : List Event) (number : ℕ) → All (IsSpelled replicas) events
    → (last : ℕ) × (events_from replicas done number (map event_line events ++ codes "end" ∷ []) ≡ Begins (done ++ events) (record { number = last; lines = [] }))
events-back replicas done [] number all = (number + 1, ap (λ events. Begins events (record { number = number + 1; lines = [] })) (sym (append-nil done)))
events-back replicas done (event ∷ events) number all =
    let is = All-head (IsSpelled replicas) event events all in
    let after = events-back replicas (done ++ event ∷ []) events (number + 1) (All-tail (IsSpelled replicas) event events all) in
    let on = option_map_or (λ event. events_from replicas (done ++ event ∷ []) (number + 1) (map event_line events ++ codes "end" ∷ [])) in (
      after.0,
      ap (λ b. cond b (Begins done (record { number = number + 1; lines = map event_line events ++ codes "end" ∷ [] })) (on (event_of replicas (words (event_line event))) (Breaks number EVENT))) (event_line-is_not event is.fits)
          ∙ ap (λ said. on said (Breaks number EVENT)) (event-back replicas event is)
          ∙ after.1
          ∙ ap (λ all. Begins all (record { number = after.0; lines = [] })) (append_assoc done (event ∷ []) events),
    )

written_end : IsOneLine (codes "end")
written_end = (Spells-word (codes "end") (written (codes "end") refl)).one_line

script_lines-one : (replicas : ℕ) (script : Script) → replicas ≤ MOST_REPLICAS → IsScripted replicas script → All IsOneLine (script_lines script)
script_lines-one replicas script few scripted = elim (has_lines script) as (λ b. All IsOneLine (cond b (codes "script" ∷ (map stop_line script.stops ++ map pause_line script.pauses)) [])) [
  | true ↦ All-cons IsOneLine (codes "script") (map stop_line script.stops ++ map pause_line script.pauses) (Spells-word (codes "script") (written (codes "script") refl)).one_line
      (All-append IsOneLine (map stop_line script.stops) (map pause_line script.pauses) (stops-one replicas script.stops few scripted.are.stops) (pauses-one replicas script.pauses few scripted.are.pauses))
  | false ↦ All-nil IsOneLine
]

events-one : (replicas : ℕ) (events : List Event) → All (IsSpelled replicas) events → All IsOneLine (map event_line events)
events-one replicas [] all = All-nil IsOneLine
events-one replicas (event ∷ events) all =
    All-cons IsOneLine (event_line event) (map event_line events) (event_line-spells event (All-head (IsSpelled replicas) event events all).fits).one_line (events-one replicas events (All-tail (IsSpelled replicas) event events all))

abbrev AreLines : List Event → Job → Type 0
AreLines events given = All IsOneLine (lines_of_trace given events)

-- each of them is one line
lines-one : (given : Job) (events : List Event) → IsJob given → All (IsSpelled given.config.replicas) events → AreLines events given
lines-one given events is all =
    let told = map event_line events ++ codes "end" ∷ [] in
    let clients = client_lines given.commands 0 (client_count 0 given.commands) in
    subst (AreLines events) is.made
    (All-append IsOneLine (first_lines is.settings) (clients ++ (script_lines given.script ++ (codes "end" ∷ told))) (first_lines-one is.settings is.limits)
    (All-append IsOneLine clients (script_lines given.script ++ (codes "end" ∷ told)) (client_lines-one given.commands 0 (client_count 0 given.commands) is.written.judged (omega (arith, is.written.few_clients)))
    (All-append IsOneLine (script_lines given.script) (codes "end" ∷ told) (script_lines-one is.settings.replicas given.script is.limits.replicas_most is.scripted)
    (All-cons IsOneLine (codes "end") told written_end
    (All-append IsOneLine (map event_line events) (codes "end" ∷ []) (events-one given.config.replicas events all) (All-cons IsOneLine (codes "end") [] written_end (All-nil IsOneLine)))))))

read-whole : (given : Job) (events : List Event) → IsJob given → All (IsSpelled given.config.replicas) events
    → whole (trace_at (record { number = 1; lines = lines_of_trace given events })) ≡ Fits (record { job = given; events = events })
read-whole given events is all =
    let rest = map event_line events ++ codes "end" ∷ [] in
    let back = job-back given rest is in
    let after = events-back given.config.replicas [] events back.0 all in
    ap whole (followed_by _ _ _ _ _ back.1 (followed_by _ _ _ _ _ after.1 refl))

-- what a trace of a job that bytes spell is printed as, is read back as that job and those events
pub trace-back : (bytes : List ℕ) (given : Job) (events : List Event) → job bytes ≡ Fits given → All (IsSpelled given.config.replicas) events
    → trace (ended (lines_of_trace given events)) ≡ Fits (record { job = given; events = events })
trace-back bytes given events spells all =
    let is = fits_whole IsJob (job_at (all_lines bytes)) given (job_at-gives (all_lines bytes)) spells in
    ap (λ (lines : List (List ℕ)). whole (trace_at (record { number = 1; lines = lines }))) (lines-ended (lines_of_trace given events) (lines-one given events is all)) ∙ read-whole given events is all
