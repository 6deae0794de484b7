use Rattle.std.proofs.Common.{◌≡◌, ◌≤◌, length, take}
use Rattle.front_desk.specs.Arrivals.{commands_by}
use Rattle.front_desk.specs.Sendings.{Sends}
use Rattle.front_desk.proofs.sending.send.Given as goal

abbrev pub invariant-loop-command : goal.invariant-loop-command
invariant-loop-command g l = record {
  hand : Sends l.line l.client (commands_by l.client (take l.command-index l.commands)) l.pass;
  count : l.count ≤ l.command-index;
  sent : l.count ≡ length (commands_by l.client (take l.command-index l.commands));
}
