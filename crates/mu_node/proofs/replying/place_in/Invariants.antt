use Rattle.std.proofs.Common.{length, ◌<◌}
use Rattle.mu_model.specs.Contents.{rows_in}
use Rattle.mu_node.proofs.Telling.{Passed}
use Rattle.mu_node.proofs.replying.place_in.Given as goal

abbrev pub invariant-loop-i : goal.invariant-loop-i
invariant-loop-i l = length (rows_in l.config l.entries) < 65536 → Passed l.config l.entries l.row l.i l.before
