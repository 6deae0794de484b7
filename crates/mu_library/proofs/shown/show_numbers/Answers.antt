use Rattle.mu_library.proofs.OfCalls.{asks_replica}
use Rattle.mu_library.proofs.shown.show_numbers.Goals as goal

pub returns-in-Some : goal.returns-in-Some
returns-in-Some c = asks_replica _ _ _ _ _ _ _ c.in-Some.ensures.held c.deref.ensures c.of.ensures c.shown_by-shown.ensures
