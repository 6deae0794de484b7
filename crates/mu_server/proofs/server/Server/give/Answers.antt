use Rattle.std.proofs.Common.{◌≡◌, ◌∙◌, [], ap, arith, length, subst, sym, take}
use Rattle.std.specs.List.{slice_get}
use Rattle.mu_server.specs.Holding.{rows_so_far}
use Rattle.mu_server.specs.Serving.{MovesAt, bytes_of}
use Rattle.mu_server.proofs.Lists.{written}
use Rattle.mu_server.proofs.Slots.{bytes-none, moves-none}
use Rattle.mu_server.proofs.server.Server.give.Goals as goal

pub returns-then-at-len-clause-moves : goal.returns-then-at-len-clause-moves
returns-then-at-len-clause-moves g c = λ life k connection session here holds.
    subst (λ l. MovesAt (rows_so_far life) life k [] l session c.args.self.now.connections.items) (sym (bytes-none c.args.number k)) (moves-none life k connection session c.args.self.now.connections.items here holds)

pub returns-clause-moves : goal.returns-clause-moves
returns-clause-moves g c = λ life k connection session here holds.
    let whole : c.args.self.now.connections.len ≡ length c.give_at.new.connections = omega arith in
    subst (λ l. MovesAt (rows_so_far life) life k [] (bytes_of c.args.number (take c.give_at.result c.give_at.new.out) k) session l) (sym (written c.args.self.now.connections.len c.give_at.new.connections c.args.self.now.connections.items whole))
    (c.give_at.ensures life k connection session (ap (λ l. slice_get l k) c.as_mut_slice.ensures.value ∙ here) holds)
