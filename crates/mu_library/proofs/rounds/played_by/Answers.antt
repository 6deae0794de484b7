use Rattle.mu_library.proofs.OfCalls.{of_engine}
use Rattle.mu_library.proofs.rounds.played_by.Goals as goal

pub returns-in-Engine : goal.returns-in-Engine
returns-in-Engine c = of_engine _ _ _ _ _ _ c.in-Engine.is c.play.ensures
