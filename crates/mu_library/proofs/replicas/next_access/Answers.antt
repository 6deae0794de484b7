use Rattle.mu_library.proofs.OfCalls.{of_replica}
use Rattle.mu_library.proofs.replicas.next_access.Goals as goal

pub returns-in-Some : goal.returns-in-Some
returns-in-Some g c = of_replica _ _ _ _ _ _ _ _ c.in-Some.ensures.held c.deref_mut.ensures.value c.of.ensures c.asked_by-asked.ensures
