-- None of the rows before this one is it.
use Rattle.std.proofs.Common.{◌≡◌, drop}
use Rattle.mu_model.specs.Contents.{includes}
use Rattle.mu_verdict.proofs.rows.has_row.Given as goal

abbrev pub invariant-loop-other : goal.invariant-loop-other
invariant-loop-other l = includes l.row (drop l.other-index l.rows) ≡ includes l.row l.rows
