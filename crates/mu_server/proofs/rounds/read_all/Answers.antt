use Rattle.mu_server.proofs.Slots.{serves-along}
use Rattle.mu_server.proofs.rounds.read_all.Goals as goal

pub returns : goal.returns
returns g c = λ life now. let first = c.read_range.ensures life now in serves-along _ _ _ _ life _ _ _ first (c.read_range-2.ensures first.after first.now)
