-- next request, with next: the next command of a client, and the configuration with its row.
use Rattle.std.specs.Prelude.{[], ◌+◌, ◌∷◌, ℕ}
use Rattle.kv_store.specs.Commands.{Request}
use Rattle.kv_store.specs.declared.command.Op.{Op}
use Rattle.mu_model.specs.declared.config.Config.{Config}
use Rattle.mu_model.specs.declared.config.Row.{Row}
use Rattle.mu_model.specs.Contents.{row_count, rows_before}
use Rattle.mu_model.specs.Growing.{with_more}
use Rattle.mu_rows.specs.Rows.{spelled}

-- the next command of a client
abbrev pub next_request : Config → ℕ → Op → Request
next_request c client op =
    record { client = client; number = rows_before c client (row_count c) + 1; op = op }

-- the row of a command, which is a batch of its own
abbrev pub row_of : Request → Row
row_of command = record { words = spelled command 0 }

-- the configuration with the row of the next command of a client
abbrev pub with_next : Config → ℕ → Op → Config
with_next c client op = with_more c (row_of (next_request c client op) ∷ [])
