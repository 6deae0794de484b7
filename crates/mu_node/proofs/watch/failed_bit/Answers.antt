use Rattle.std.proofs.Common.{◌∙◌, ap, arith}
use Rattle.std.specs.Prelude.{not}
use Rattle.mu_lead.specs.Sets.{bit}
use Rattle.mu_node.proofs.watch.failed_bit.Goals as goal

pub returns-then-q-n-clause-is : goal.returns-then-q-n-clause-is
returns-then-q-n-clause-is c r mine low stands = c.one_if.ensures.is ∙ ap (λ t. bit (not t)) (c.alive.ensures c.args.n r mine low stands)

pub returns-else-q-n-clause-is : goal.returns-else-q-n-clause-is
returns-else-q-n-clause-is c r mine low stands = absurd (omega (arith, c.if-q-n.false, low))
