use Rattle.mu_server.proofs.Slots.{serves-along}
use Rattle.mu_server.proofs.server.Server.play.Goals as goal

pub returns-in_err-turn : goal.returns-in_err-turn
returns-in_err-turn g c = λ life now. let first = c.rounds.invariant life now in serves-along _ _ _ _ life _ _ _ first (c.turn.ensures first.after first.now)

pub rounds-preserved : goal.rounds-preserved
rounds-preserved g c = λ life now. let first = c.rounds.invariant life now in serves-along _ _ _ _ life _ _ _ first (c.turn.ensures first.after first.now)
