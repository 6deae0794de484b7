-- The rows so far, and those of the entries that are left, are those of the log.
use Rattle.std.proofs.Common.{◌≡◌, ◌++◌, drop}
use Rattle.mu_model.specs.Contents.{rows_in}
use Rattle.mu_verdict.proofs.rows.rows_in.Given as goal

abbrev pub invariant-loop-value : goal.invariant-loop-value
invariant-loop-value l = l.rows.items ++ rows_in l.config (drop l.value-index l.log) ≡ rows_in l.config l.log
