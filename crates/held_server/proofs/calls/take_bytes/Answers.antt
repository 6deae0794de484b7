use Rattle.held_server.specs.Servers.{Takes}
use Rattle.held_server.proofs.OfServers.{of_server}
use Rattle.held_server.proofs.calls.take_bytes.Goals as goal

pub returns-in-Some : goal.returns-in-Some
returns-in-Some c = of_server _ (Takes c.args.number c.args.bytes.now c.taken_by-moved.result.count) _ _ _ _ _ _ c.in-Some.ensures.held c.deref_mut.ensures.value c.of.ensures c.taken_by-moved.ensures
