use Rattle.mu_library.proofs.OfCalls.{asks_handle}
use Rattle.mu_library.proofs.states.engine_state.Goals as goal

pub returns-in-Some : goal.returns-in-Some
returns-in-Some c = asks_handle _ _ _ _ _ _ _ c.in-Some.ensures.held c.deref.ensures c.of.ensures c.state_in-state.ensures
