use Rattle.std.proofs.Common.{arith}
use Rattle.mu_input.proofs.Advancing.{few_lines}
use Rattle.mu_verdict.proofs.explaining.count_of_lines.Goals as goal

pub next-requires : goal.next-requires
next-requires c =
    let few = few_lines c.args.bytes.now in
    omega (arith, c.loop.invariant, few, c.requires)
