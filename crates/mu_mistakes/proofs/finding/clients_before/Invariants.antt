-- The clients so far, and those of the lines that are left.
use Rattle.std.proofs.Common.{◌≡◌, ◌<◌, ◌+◌, ◌-◌, length}
use Rattle.mu_text.specs.Lines.{lines}
use Rattle.mu_mistakes.specs.Expected.{clients_before, clients_in}
use Rattle.mu_mistakes.proofs.finding.clients_before.Given as goal

abbrev pub invariant-loop-rest : goal.invariant-loop-rest
invariant-loop-rest l = record {
  same : l.clients + clients_in (l.number - l.rest.number) l.rest.lines ≡ clients_before l.bytes l.number;
  few : l.rest.number + length l.rest.lines ≡ 1 + length (lines l.bytes);
  small : l.clients < l.rest.number;
}

abbrev pub decreases-loop-rest : goal.decreases-loop-rest
decreases-loop-rest l = length l.rest.lines
