use Rattle.std.proofs.Common.{inl, refl, subst, sym}
use Rattle.held_server.specs.Servers.{Takes}
use Rattle.held_server.proofs.calls.taken_by.Goals as goal

pub returns-in-Ok : goal.returns-in-Ok
returns-in-Ok c =
    subst (λ moved. Takes c.args.number c.args.bytes.now moved.count c.args.held.now (record { server = c.take.new.self }) moved.status) (sym c.of.ensures)
    (record { store = c.in-Ok.ensures.store; takes = inl (refl, c.in-Ok.ensures.moves) })
