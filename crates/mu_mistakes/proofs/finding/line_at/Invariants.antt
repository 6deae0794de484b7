-- The line that is looked for stands among those that are left.
use Rattle.std.proofs.Common.{◌≡◌, ◌+◌, ◌-◌, length}
use Rattle.std.specs.List.{slice_get}
use Rattle.mu_text.specs.Lines.{lines}
use Rattle.mu_mistakes.proofs.finding.line_at.Given as goal

abbrev pub invariant-loop-rest : goal.invariant-loop-rest
invariant-loop-rest l = record {
  same : slice_get l.rest.lines (l.number - l.rest.number) ≡ slice_get (lines l.bytes) (l.number - 1);
  few : l.rest.number + length l.rest.lines ≡ 1 + length (lines l.bytes);
}

abbrev pub decreases-loop-rest : goal.decreases-loop-rest
decreases-loop-rest l = length l.rest.lines
