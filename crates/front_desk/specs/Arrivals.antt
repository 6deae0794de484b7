-- arrival: for each client, the commands that arrived are the given ones, whole, in order and once.
use Rattle.std.specs.Prelude.{ℕ, ◌≡◌, ◌==◌, List, [], ◌∷◌, if◌then◌else◌}
use Rattle.kv_store.specs.Commands.{Request}

-- the commands of a client, in their order
abbrev pub commands_by : ℕ → List Request → List Request
commands_by client [] = []
commands_by client (command ∷ commands) =
    if command.client == client then command ∷ commands_by client commands
    else commands_by client commands

-- for each client, the commands that arrived are those that were given: whole, in order and each
-- once; and there are no others
abbrev pub IsArrival : List Request → List Request → Type 0
IsArrival given arrived = (client : ℕ) → commands_by client arrived ≡ commands_by client given
