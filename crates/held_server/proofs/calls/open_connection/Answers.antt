use Rattle.held_server.specs.Servers.{OpensOne}
use Rattle.held_server.proofs.OfServers.{of_server}
use Rattle.held_server.proofs.calls.open_connection.Goals as goal

pub returns-in-Some : goal.returns-in-Some
returns-in-Some c = of_server _ (OpensOne c.opened_in-told.result.number) _ _ _ _ _ _ c.in-Some.ensures.held c.deref_mut.ensures.value c.of.ensures c.opened_in-told.ensures
