use Rattle.std.proofs.Common.{refl, subst}
use Rattle.held_server.specs.Servers.{States}
use Rattle.held_server.proofs.OfServers.{of_server}
use Rattle.held_server.proofs.calls.connection_state.Goals as goal

pub returns-in-Some : goal.returns-in-Some
returns-in-Some c =
    of_server _ (States c.args.number c.state_in-told.result.number) _ _ _ _ _ _ c.in-Some.ensures.held refl c.of.ensures
    (subst (λ held. States c.args.number c.state_in-told.result.number held held c.state_in-told.result.status) c.deref.ensures c.state_in-told.ensures)
