use Rattle.std.proofs.Common.{arith}
use Rattle.mu_model.specs.Histories.{part}
use Rattle.mu_telling.proofs.showing.push_replica_at.Goals as goal

pub returns-in-None : goal.returns-in-None
returns-in-None c = λ past s low held is long. let over = c.in-None.ensures past s held in absurd (omega (arith, over, low))

pub returns-in-Some : goal.returns-in-Some
returns-in-Some c = λ past s low held is long. c.push_replica.ensures (part c.args.replica past) s (c.in-Some.ensures past s held) is long
