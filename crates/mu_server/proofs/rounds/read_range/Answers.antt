use Rattle.mu_server.proofs.Slots.{serves-along, serves-same}
use Rattle.mu_server.proofs.rounds.read_range.Goals as goal

pub range-init : goal.range-init
range-init g c = λ life now. serves-same _ _ life c.args.connections.now now

pub returns-in_err-read_at : goal.returns-in_err-read_at
returns-in_err-read_at g c = λ life now. let first = c.range.invariant life now in serves-along _ _ _ _ life _ _ _ first (c.read_at.ensures first.after first.now)

pub returns-then-branch : goal.returns-then-branch
returns-then-branch g c = λ life now. let first = c.range.invariant life now in serves-along _ _ _ _ life _ _ _ first (c.read_at.ensures first.after first.now)

pub range-preserved : goal.range-preserved
range-preserved g c = λ life now. let first = c.range.invariant life now in serves-along _ _ _ _ life _ _ _ first (c.read_at.ensures first.after first.now)
