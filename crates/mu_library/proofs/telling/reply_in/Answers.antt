use Rattle.mu_library.proofs.OfCalls.{asks_engine}
use Rattle.mu_library.proofs.telling.reply_in.Goals as goal

pub returns-in-Engine : goal.returns-in-Engine
returns-in-Engine c = asks_engine _ _ _ _ _ c.in-Engine.is c.reply_of.ensures
