-- going on, orders over eras: the commands of eras one after the other, the numbers of each client
-- going on.
use Rattle.std.specs.Prelude.{List, [], length, map, ℕ, ◌++◌, ◌+◌, ◌∷◌}
use Rattle.kv_store.specs.Commands.{Request}
use Rattle.kv_store.specs.Sessions.{numbers_of}

-- how many of these commands are of the client
abbrev pub count_of : ℕ → List Request → ℕ
count_of client commands = length (numbers_of client commands)

-- a command of an era that follows these: its number among all commands of its client
abbrev pub numbered_after : List Request → Request → Request
numbered_after past command = record {
  client = command.client;
  number = count_of command.client past + command.number;
  op = command.op;
}

-- these commands, and behind them those of the era that follows
abbrev pub going_on : List Request → List Request → List Request
going_on past commands = past ++ map (numbered_after past) commands

-- the commands of eras, one after the other, with the newest era first
abbrev pub over_eras : List (List Request) → List Request
over_eras [] = []
over_eras (era ∷ past) = going_on (over_eras past) era
