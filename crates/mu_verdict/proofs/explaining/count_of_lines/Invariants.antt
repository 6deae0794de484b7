use Rattle.std.proofs.Common.{◌≡◌, ◌+◌, length}
use Rattle.mu_text.specs.Lines.{lines}
use Rattle.mu_verdict.proofs.explaining.count_of_lines.Given as goal

abbrev pub invariant-loop : goal.invariant-loop
invariant-loop l = l.rest.number + length l.rest.lines ≡ 1 + length (lines l.bytes)

abbrev pub decreases-loop : goal.decreases-loop
decreases-loop l = length l.rest.lines
