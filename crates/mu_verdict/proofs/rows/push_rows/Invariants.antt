-- So many rows of the entry were added.
use Rattle.std.proofs.Common.{◌≡◌, ◌++◌}
use Rattle.mu_model.specs.Contents.{rows_from}
use Rattle.mu_verdict.proofs.rows.push_rows.Given as goal

abbrev pub invariant-loop-place : goal.invariant-loop-place
invariant-loop-place l = l.rows.items ≡ l.fn.rows.items ++ rows_from l.place l.first
