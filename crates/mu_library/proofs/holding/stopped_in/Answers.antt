use Rattle.mu_library.proofs.OfCalls.{of_engine}
use Rattle.mu_library.proofs.holding.stopped_in.Goals as goal

pub returns-in-Engine : goal.returns-in-Engine
returns-in-Engine c = of_engine _ _ _ _ _ _ c.in-Engine.is c.stop.ensures
