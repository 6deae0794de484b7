use Rattle.std.proofs.Common.{arith}
use Rattle.mu_input.proofs.Advancing.{few_lines}
use Rattle.mu_mistakes.proofs.finding.line_at.Goals as goal

pub next-requires-2 : goal.next-requires-2
next-requires-2 c =
    let few = few_lines c.args.bytes.now in
    let left = c.loop-rest.invariant.few in
    omega (arith, few, left, c.requires)
