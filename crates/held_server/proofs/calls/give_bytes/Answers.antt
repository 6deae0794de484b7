use Rattle.held_server.specs.Servers.{Gives}
use Rattle.held_server.proofs.OfServers.{of_server}
use Rattle.held_server.proofs.calls.give_bytes.Goals as goal

pub returns-in-Some : goal.returns-in-Some
returns-in-Some c = of_server _ (Gives c.args.number c.given_by-moved.new.out c.given_by-moved.result.count) _ _ _ _ _ _ c.in-Some.ensures.held c.deref_mut.ensures.value c.of.ensures c.given_by-moved.ensures
