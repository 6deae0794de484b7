-- in session (requests): each client's commands are numbered 1, 2, .. in order, and each comes
-- once.
use Rattle.std.specs.Prelude.{ℕ, ◌+◌, ◌≡◌, ◌==◌, List, [], ◌∷◌, if◌then◌else◌, ⊤}
use Rattle.kv_store.specs.Commands.{Request}

-- the numbers of the commands of a client, in their order
abbrev pub numbers_of : ℕ → List Request → List ℕ
numbers_of client [] = []
numbers_of client (command ∷ commands) =
    if command.client == client then command.number ∷ numbers_of client commands
    else numbers_of client commands

-- the numbers are `first`, the one after it, and so on
abbrev pub CountsFrom : ℕ → List ℕ → Type 0
CountsFrom first [] = ⊤
CountsFrom first (number ∷ numbers) = (number ≡ first) × CountsFrom (first + 1) numbers

-- the commands of each client have the numbers 1, 2 and so on, in this order
abbrev pub IsInSession : List Request → Type 0
IsInSession commands = (client : ℕ) → CountsFrom 1 (numbers_of client commands)
