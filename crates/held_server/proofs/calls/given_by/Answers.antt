use Rattle.std.proofs.Common.{refl, subst, sym}
use Rattle.held_server.specs.Servers.{Gives}
use Rattle.held_server.proofs.calls.given_by.Goals as goal

pub returns : goal.returns
returns c =
    subst (λ moved. Gives c.args.number c.give.new.out moved.count c.args.held.now (record { server = c.give.new.self }) moved.status) (sym c.of.ensures)
    (record { done = refl; store = c.give.ensures.store; gives = c.give.ensures.moves })
