use Rattle.std.proofs.Common.{arith}
use Rattle.mu_input.proofs.Advancing.{few_lines}
use Rattle.mu_mistakes.proofs.finding.clients_before.Goals as goal

pub returns-in_default-clause-few : goal.returns-in_default-clause-few
returns-in_default-clause-few c =
    let few = few_lines c.args.bytes.now in
    let left = c.loop-rest.invariant.few in
    let small = c.loop-rest.invariant.small in
    omega (arith, few, left, small, c.requires)

pub returns-clause-few : goal.returns-clause-few
returns-clause-few c =
    let few = few_lines c.args.bytes.now in
    let left = c.loop-rest.invariant.few in
    let small = c.loop-rest.invariant.small in
    omega (arith, few, left, small, c.requires)
