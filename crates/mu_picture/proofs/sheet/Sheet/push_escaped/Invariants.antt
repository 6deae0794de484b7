-- The bytes before this one are written.
use Rattle.std.proofs.Common.{◌≡◌, ◌++◌, drop}
use Rattle.mu_picture.specs.Shapes.{escaped}
use Rattle.mu_picture.proofs.sheet.Sheet.push_escaped.Given as goal

abbrev pub invariant-loop-byte : goal.invariant-loop-byte
invariant-loop-byte l = l.self ++ escaped (drop l.byte-index l.text) ≡ l.initial.self ++ escaped l.text
