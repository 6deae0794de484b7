use Rattle.held_server.specs.Servers.{Closes}
use Rattle.held_server.proofs.OfServers.{of_server}
use Rattle.held_server.proofs.calls.close_connection.Goals as goal

pub returns-in-Some : goal.returns-in-Some
returns-in-Some c = of_server _ (Closes c.args.number) _ _ _ _ _ _ c.in-Some.ensures.held c.deref_mut.ensures.value c.of.ensures c.closed_in-status.ensures
