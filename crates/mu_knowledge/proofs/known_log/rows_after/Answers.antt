use Rattle.std.proofs.Common.{arith}
use Rattle.mu_knowledge.proofs.Learning.{few_after, rows_added}
use Rattle.mu_knowledge.proofs.known_log.rows_after.Goals as goal

pub returns : goal.returns
returns c values good short is =
    let k = c.args.config.now in
    let v = c.args.v in
    let few = few_after k v values good short in
    let more = rows_added k v values in
    let sum = c.saturating_add.ensures in
    let rows = c.rows_of.ensures in
    omega (arith, few, more, sum, rows, is)
