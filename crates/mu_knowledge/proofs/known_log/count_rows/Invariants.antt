use Rattle.std.proofs.Common.{◌≡◌, ℕ, ◌<◌, ◌+◌, List, length, Some}
use Rattle.std.specs.List.{slice_get}
use Rattle.mu_model.specs.Contents.{IsConfig, command_count, numbers_in, rows_from}
use Rattle.mu_knowledge.specs.KnownLog.{CountsCommands}
use Rattle.mu_knowledge.proofs.known_log.count_rows.Given as goal

abbrev pub invariant-loop-t : goal.invariant-loop-t
invariant-loop-t l =
    (values : List ℕ) → IsConfig l.config → length values < 2000 → CountsCommands l.config values l.fn.counts → (client : ℕ) → client < 256
    → slice_get l.counts client ≡ Some (command_count l.config client values + length (numbers_in l.config client (rows_from l.t l.row)))
