-- The notes before this one are measured.
use Rattle.std.proofs.Common.{◌≡◌, drop, max}
use Rattle.mu_picture.specs.Drawing.{longest_of}
use Rattle.mu_picture.proofs.drawing.longest.Given as goal

abbrev pub invariant-loop-mark : goal.invariant-loop-mark
invariant-loop-mark l = max l.most (longest_of l.job (drop l.mark-index l.marks)) ≡ longest_of l.job l.marks
