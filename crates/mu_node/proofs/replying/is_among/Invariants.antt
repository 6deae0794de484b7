use Rattle.std.proofs.Common.{◌≡◌, false, take}
use Rattle.mu_model.specs.Contents.{includes, rows_in}
use Rattle.mu_node.proofs.replying.is_among.Given as goal

abbrev pub invariant-loop-i : goal.invariant-loop-i
invariant-loop-i l = includes l.row (rows_in l.config (take l.i l.entries)) ≡ false
