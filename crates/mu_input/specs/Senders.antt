-- for a desk, desk line: which jobs a front desk serves; the first line that keeps a job from it.
use Rattle.std.specs.Prelude.{ℕ, ◌+◌, ◌≡◌, ◌<◌, ◌==◌, List, [], ◌∷◌, Some, None, if◌then◌else◌}
use Rattle.std.specs.declared.option.Option.{Option}
use Rattle.std.specs.List.{All}
use Rattle.kv_store.specs.Commands.{Request}
use Rattle.mu_text.specs.Lines.{words}
use Rattle.mu_input.specs.Bodies.{body_line}
use Rattle.mu_input.specs.Grammar.{all_lines}
use Rattle.mu_input.specs.Readings.{Front, Begins, Breaks, Line, Says, Wrong}
use Rattle.mu_input.specs.Settings.{settings_at}
use Rattle.mu_input.specs.declared.TheConstants.{MOST_SENDERS}
use Rattle.mu_input.specs.declared.bodies.BodyLine.{BodyLine}
use Rattle.mu_input.specs.declared.bodies.BodyLine.TheVariants.{Client, Operation, Script, End}
use Rattle.mu_input.specs.declared.heading.Settings.{Settings}
use Rattle.mu_input.specs.declared.job.Job.{Job}

-- each of these commands has a sender
abbrev pub HaveSenders : List Request → Type 0
HaveSenders commands = All (λ (command : Request). command.client < MOST_SENDERS) commands

-- one command at a time, each of a client that has a sender
pub record IsForDesk (job : Job) : Type 0 where
  pub version : job.config.version ≡ 1
  pub senders : HaveSenders job.commands

-- the number of this line, if a client too many begins there after this many clients and commands;
-- else `again` looks on after a client or an operation, and there is none after anything else
abbrev pub beyond_after : ℕ → ℕ → ℕ → (ℕ → ℕ → Option ℕ) → Line BodyLine → Option ℕ
beyond_after clients commands number again (Says Client) =
    if clients == MOST_SENDERS then Some number else again (clients + 1) commands
beyond_after clients commands number again (Says (Operation op)) = again clients (commands + 1)
beyond_after clients commands number again (Says Script) = None
beyond_after clients commands number again (Says End) = None
beyond_after clients commands number again (Wrong cause) = None

-- the number of the line at which the client after the last sender's begins, among the lines from
-- `number` on
abbrev pub beyond_from : ℕ → ℕ → ℕ → List (List ℕ) → Option ℕ
beyond_from clients commands number [] = None
beyond_from clients commands number (line ∷ lines) =
    beyond_after clients commands number
    (λ clients commands. beyond_from clients commands (number + 1) lines)
    (body_line clients commands (words line))

-- the line at which a job of these settings leaves what a desk serves: the first in version 2, else
-- that of a client too many
abbrev pub line_after : Front Settings → Option ℕ
line_after (Begins settings left) =
    if settings.version == 2 then Some 1 else beyond_from 0 0 left.number left.lines
line_after (Breaks line cause) = None

-- the first line that keeps the job that bytes spell from a desk
abbrev pub desk_line : List ℕ → Option ℕ
desk_line bytes = line_after (settings_at (all_lines bytes))
