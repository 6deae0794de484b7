use Rattle.std.proofs.Common.{◌≡◌, ◌+◌, ◌≤◌, ◌++◌, List, length, vec_capacity}
use Rattle.mu_model.specs.declared.config.Row.{Row}
use Rattle.mu_input.specs.Batches.{rows_of}
use Rattle.mu_input.specs.Heads.{HaveHeads}
use Rattle.mu_input.proofs.Cuts.{AreInTurn}
use Rattle.mu_input.proofs.batches.rows_in.Given as goal

abbrev pub invariant-loop-command : goal.invariant-loop-command
invariant-loop-command l = record {
  rows : rows_of l.width l.fn.commands ≡ l.rows.items ++ rows_of l.width l.left;
  heads : (more : List Row) → HaveHeads l.width l.left more → HaveHeads l.width l.fn.commands (l.rows.items ++ more);
  turn : AreInTurn l.left;
  room : length l.rows.items + length l.left ≤ vec_capacity l.rows;
}

abbrev pub decreases-loop-command : goal.decreases-loop-command
decreases-loop-command l = length l.left
