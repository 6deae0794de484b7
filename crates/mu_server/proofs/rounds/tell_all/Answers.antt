use Rattle.mu_server.proofs.Slots.{serves-along, serves-same}
use Rattle.mu_server.proofs.rounds.tell_all.Goals as goal

pub all-init : goal.all-init
all-init g c = λ life now. serves-same _ _ life c.args.connections.now now

pub returns-in_err-tell_at : goal.returns-in_err-tell_at
returns-in_err-tell_at g c = λ life now. let first = c.all.invariant life now in serves-along _ _ _ _ life _ _ _ first (c.tell_at.ensures first.after first.now)

pub all-preserved : goal.all-preserved
all-preserved g c = λ life now. let first = c.all.invariant life now in serves-along _ _ _ _ life _ _ _ first (c.tell_at.ensures first.after first.now)
