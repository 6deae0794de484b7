-- body: the commands of a job: the lines between the settings and the script or the end.
use Rattle.std.specs.Prelude.{ℕ, ◌+◌, ◌-◌, ◌<◌, ◌==◌, ⊤, nat_lt, true, false, List, [], ◌∷◌, ◌++◌, length, codes, if◌then◌else◌}
use Rattle.kv_store.specs.Commands.{Request, HasShortTexts}
use Rattle.kv_store.specs.Sessions.{numbers_of}
use Rattle.kv_store.specs.declared.command.Op.{Op}
use Rattle.mu_text.specs.Lines.{Left, is_alone, is_first, words}
use Rattle.mu_text.specs.Numbers.{is_numbered, number_of}
use Rattle.mu_input.specs.Operations.{names_operation, operation_of}
use Rattle.mu_input.specs.Readings.{Front, Begins, Breaks, Line, Says, Wrong}
use Rattle.mu_input.specs.declared.TheConstants.{MOST_CLIENTS, MOST_COMMANDS}
use Rattle.mu_input.specs.declared.cause.TheConstants.{CLIENT, OPERATION, TOO_MANY, NO_END}
use Rattle.mu_input.specs.declared.bodies.BodyLine.{BodyLine}
use Rattle.mu_input.specs.declared.bodies.BodyLine.TheVariants.{Client, Operation, Script, End}
use Rattle.mu_input.specs.declared.bodies.Body.{Body}

-- a line of the next client after this many: it has this number
abbrev pub client_line : ℕ → List (List ℕ) → Line BodyLine
client_line clients (name ∷ number ∷ []) =
    if is_numbered clients (number_of number)
    then (if nat_lt clients MOST_CLIENTS then Says Client else Wrong TOO_MANY) else Wrong CLIENT
client_line clients _ = Wrong CLIENT

-- an operation of the last client, if there is room for it after this many commands
abbrev pub operation_line : ℕ → Line Op → Line BodyLine
operation_line commands (Says op) =
    if nat_lt commands MOST_COMMANDS then Says (Operation op) else Wrong TOO_MANY
operation_line commands (Wrong cause) = Wrong cause

-- what a line says after this many clients and commands
abbrev pub body_line : ℕ → ℕ → List (List ℕ) → Line BodyLine
body_line clients commands line =
    if is_first (codes "client") line then client_line clients line
    else if names_operation line
    then (if clients == 0 then Wrong CLIENT else operation_line commands (operation_of line))
    else if is_alone (codes "script") line then Says Script
    else if is_alone (codes "end") line then Says End
    else Wrong OPERATION

-- there is room for what a line says after this many clients and commands
abbrev pub HasRoom : ℕ → ℕ → BodyLine → Type 0
HasRoom clients commands Client = clients < MOST_CLIENTS
HasRoom clients commands (Operation op) =
    (0 < clients) × (commands < MOST_COMMANDS) × HasShortTexts op
HasRoom clients commands Script = ⊤
HasRoom clients commands End = ⊤

-- the next command of a client, after these commands
abbrev pub next_command : ℕ → List Request → Op → Request
next_command client commands op =
    record { client = client; number = length (numbers_of client commands) + 1; op = op }

-- the line says this, and `again` reads the lines from `left` on with the clients and commands then
abbrev pub body_after :
    ℕ → List Request → ℕ → Left → (ℕ → List Request → Front Body) → Line BodyLine → Front Body
body_after clients commands number left again (Says Client) = again (clients + 1) commands
body_after clients commands number left again (Says (Operation op)) =
    again clients (commands ++ next_command (clients - 1) commands op ∷ [])
body_after clients commands number left again (Says Script) =
    Begins (record { commands = commands; has_script = true }) left
body_after clients commands number left again (Says End) =
    Begins (record { commands = commands; has_script = false }) left
body_after clients commands number left again (Wrong cause) = Breaks number cause

-- the commands that the lines from `number` on give, after this many clients and these commands
abbrev pub body_from : ℕ → List Request → ℕ → List (List ℕ) → Front Body
body_from clients commands number [] = Breaks number NO_END
body_from clients commands number (line ∷ lines) =
    body_after clients commands number (record { number = number + 1; lines = lines })
    (λ clients commands. body_from clients commands (number + 1) lines)
    (body_line clients (length commands) (words line))

-- the commands, and whether a script follows
abbrev pub body_at : Left → Front Body
body_at left = body_from 0 [] left.number left.lines
