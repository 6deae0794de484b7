use Rattle.std.proofs.Common.{◌≡◌, ◌∙◌, [], ap, arith, length, subst, sym}
use Rattle.std.specs.List.{slice_get}
use Rattle.mu_server.specs.Holding.{rows_so_far}
use Rattle.mu_server.specs.Serving.{MovesAt}
use Rattle.mu_server.proofs.Lists.{written}
use Rattle.mu_server.proofs.Slots.{moves-none}
use Rattle.mu_server.proofs.server.Server.close.Goals as goal

pub returns-then-at-len-clause-moves : goal.returns-then-at-len-clause-moves
returns-then-at-len-clause-moves g c = λ life k connection session here holds.
    let whole : c.args.self.now.connections.len ≡ length c.close_at.new.connections = omega arith in
    subst (λ l. MovesAt (rows_so_far life) life k [] [] session l) (sym (written c.args.self.now.connections.len c.close_at.new.connections c.args.self.now.connections.items whole))
    (c.close_at.ensures life k connection session (ap (λ l. slice_get l k) c.as_mut_slice.ensures.value ∙ here) holds)

pub returns-else-at-len-clause-moves : goal.returns-else-at-len-clause-moves
returns-else-at-len-clause-moves g c = λ life k connection session here holds. moves-none life k connection session c.args.self.now.connections.items here holds
