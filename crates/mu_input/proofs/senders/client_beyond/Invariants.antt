use Rattle.std.proofs.Common.{◌≡◌, ◌+◌, ◌≤◌, length}
use Rattle.mu_input.specs.Senders.{beyond_from}
use Rattle.mu_input.specs.declared.TheConstants.{MOST_SENDERS, MOST_COMMANDS}
use Rattle.mu_input.proofs.senders.client_beyond.Given as goal

abbrev pub invariant-loop-line : goal.invariant-loop-line
invariant-loop-line l = record {
  line : beyond_from l.clients l.commands l.lines.number l.lines.lines ≡ beyond_from 0 0 l.fn.lines.number l.fn.lines.lines;
  number : l.lines.number ≡ l.fn.lines.number + l.clients + l.commands;
  few_clients : l.clients ≤ MOST_SENDERS;
  few : l.commands ≤ MOST_COMMANDS;
}

abbrev pub decreases-loop-line : goal.decreases-loop-line
decreases-loop-line l = length l.lines.lines
