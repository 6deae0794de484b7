use Rattle.std.proofs.Common.{arith}
use Rattle.mu_input.proofs.StopsAndPauses.{no_pause}
use Rattle.mu_input.proofs.scripts.pause_line.Goals as goal

pub returns-in_default : goal.returns-in_default
returns-in_default c = no_pause c.args.replicas c.args.pauses.now c.args.words.now (λ four. omega (arith, c.in_default.len_below, four))

pub returns-in_default-3 : goal.returns-in_default-3
returns-in_default-3 c = no_pause c.args.replicas c.args.pauses.now c.args.words.now (λ four. omega (arith, c.in_default.len_at_least, four))
