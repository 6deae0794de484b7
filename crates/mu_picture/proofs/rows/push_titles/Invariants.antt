-- The titles before this one are there.
use Rattle.std.proofs.Common.{◌≡◌, ◌++◌}
use Rattle.mu_picture.specs.Drawing.{titles_pieces}
use Rattle.mu_picture.proofs.rows.push_titles.Given as goal

abbrev pub invariant-loop-r : goal.invariant-loop-r
invariant-loop-r l = l.sheet ≡ l.initial.sheet ++ titles_pieces l.r l.y
