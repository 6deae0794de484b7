-- The parts before this one are written.
use Rattle.std.proofs.Common.{◌≡◌, ◌++◌, drop}
use Rattle.mu_picture.specs.Shapes.{parts_bytes}
use Rattle.mu_picture.proofs.shapes.push_parts.Given as goal

abbrev pub invariant-loop-part : goal.invariant-loop-part
invariant-loop-part l = l.sheet ++ parts_bytes (drop l.part-index l.parts) ≡ l.initial.sheet ++ parts_bytes l.parts
