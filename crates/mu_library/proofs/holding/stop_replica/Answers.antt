use Rattle.mu_library.proofs.OfCalls.{of_handle}
use Rattle.mu_library.proofs.holding.stop_replica.Goals as goal

pub returns-in-Some : goal.returns-in-Some
returns-in-Some c = of_handle _ _ _ _ _ _ _ _ c.in-Some.ensures.held c.deref_mut.ensures.value c.of.ensures c.stopped_in-status.ensures
