use Rattle.std.proofs.Common.{arith, ◌∙◌}
use Rattle.mu_strings.proofs.Fronts.{made-of, none-made}
use Rattle.mu_strings.proofs.spelling.text_of.Goals as goal

pub returns-in-Some : goal.returns-in-Some
returns-in-Some c = made-of 64 c.args.string.now c.as_slice.result.now c.new.result (λ i. omega (arith, c.type_inv.string i)) (omega arith) (c.as_slice.ensures ∙ c.in-Some.ensures) c.new.ensures.allowed.0 c.new.ensures.allowed.1 c.new.ensures.same

pub returns-in-None : goal.returns-in-None
returns-in-None c = none-made 64 c.args.string.now (omega (arith, c.in-None.ensures))
