use Rattle.std.proofs.Common.{◌≡◌, ◌+◌, length}
use Rattle.mu_input.specs.Bodies.{body_from, body_at}
use Rattle.mu_input.proofs.Clients.{IsBody}
use Rattle.mu_input.proofs.bodies.read_body.Given as goal

abbrev pub invariant-loop-line : goal.invariant-loop-line
invariant-loop-line l = record {
  reading : body_from l.clients l.commands.items l.lines.number l.lines.lines ≡ body_at l.fn.lines;
  body : IsBody l.clients l.count l.commands.items;
  number : l.lines.number ≡ l.fn.lines.number + l.clients + length l.commands.items;
}

abbrev pub decreases-loop-line : goal.decreases-loop-line
decreases-loop-line l = length l.lines.lines
