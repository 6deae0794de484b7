-- batch: how the commands of a job are cut into batches: how many commands follow one in its batch,
-- and the rows.
use Rattle.std.specs.Prelude.{ℕ, ◌+◌, ◌%◌, ◌==◌, List, [], ◌∷◌, if◌then◌else◌}
use Rattle.kv_store.specs.Commands.{Request}
use Rattle.mu_model.specs.declared.config.Row.{Row}
use Rattle.mu_rows.specs.Rows.{spelled}

-- how many commands follow the first of these in its batch: the commands of a client are cut into
-- groups of the width, and the last group may be shorter
abbrev pub followers : ℕ → Request → List Request → ℕ
followers width command [] = 0
followers width command (next ∷ commands) =
    if command.number % width == 0 then 0
    else if next.client == command.client then followers width next commands + 1
    else 0

-- the rows of commands, one for each
abbrev pub rows_of : ℕ → List Request → List Row
rows_of width [] = []
rows_of width (command ∷ commands) =
    record { words = spelled command (followers width command commands) } ∷ rows_of width commands
