use Rattle.std.proofs.Common.{arith}
use Rattle.mu_input.proofs.StopsAndPauses.{no_stop}
use Rattle.mu_input.proofs.scripts.stop_line.Goals as goal

pub returns-in_default : goal.returns-in_default
returns-in_default c = no_stop c.args.replicas c.args.stops.now c.args.words.now (λ three. omega (arith, c.in_default.len_below, three))

pub returns-in_default-3 : goal.returns-in_default-3
returns-in_default-3 c = no_stop c.args.replicas c.args.stops.now c.args.words.now (λ three. omega (arith, c.in_default.len_at_least, three))
