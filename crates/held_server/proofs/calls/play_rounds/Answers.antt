use Rattle.held_server.specs.Servers.{Plays}
use Rattle.held_server.proofs.OfServers.{of_server}
use Rattle.held_server.proofs.calls.play_rounds.Goals as goal

pub returns-in-Some : goal.returns-in-Some
returns-in-Some c = of_server _ (Plays c.played_by-told.result.number) _ _ _ _ _ _ c.in-Some.ensures.held c.deref_mut.ensures.value c.of.ensures c.played_by-told.ensures
