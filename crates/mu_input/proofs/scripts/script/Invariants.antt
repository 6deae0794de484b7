use Rattle.std.proofs.Common.{◌≡◌, ◌+◌, ◌≤◌, [], length}
use Rattle.mu_input.specs.Scripts.{script_from}
use Rattle.mu_input.proofs.scripts.script.Given as goal

abbrev pub invariant-loop-line : goal.invariant-loop-line
invariant-loop-line l = record {
  reading : script_from l.replicas [] [] l.fn.lines.number l.fn.lines.lines ≡ script_from l.replicas l.stops.items l.pauses.items l.number l.lines.lines;
  few : length l.stops.items + length l.pauses.items ≤ 100;
  count : l.number ≡ l.fn.lines.number + (length l.stops.items + length l.pauses.items);
  next : l.lines.number ≡ l.number;
}

abbrev pub decreases-loop-line : goal.decreases-loop-line
decreases-loop-line l = length l.lines.lines
