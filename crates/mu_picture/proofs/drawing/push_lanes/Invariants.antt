-- The lanes before this one are there.
use Rattle.std.proofs.Common.{◌≡◌, ◌++◌, drop}
use Rattle.mu_picture.specs.Drawing.{lanes_from}
use Rattle.mu_picture.proofs.drawing.push_lanes.Given as goal

abbrev pub invariant-loop-opening : goal.invariant-loop-opening
invariant-loop-opening l = record {
  lanes : l.sheet ++ lanes_from l.r (drop l.opening-index l.openings) ≡ l.initial.sheet ++ lanes_from 0 l.openings;
  number : l.r ≡ l.opening-index;
}
