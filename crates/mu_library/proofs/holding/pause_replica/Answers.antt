use Rattle.mu_library.proofs.OfCalls.{of_handle}
use Rattle.mu_library.proofs.holding.pause_replica.Goals as goal

pub returns-in-Some : goal.returns-in-Some
returns-in-Some c = of_handle _ _ _ _ _ _ _ _ c.in-Some.ensures.held c.deref_mut.ensures.value c.of.ensures c.paused_in-status.ensures
