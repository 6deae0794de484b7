use Rattle.std.proofs.Common.{ap, arith, suc, ◌+◌, ◌-◌, ◌∙◌, ◌≡◌}
use Rattle.mu_lead.specs.Sets.{is_bit}
use Rattle.mu_lead.proofs.offering.has_bit.Goals as goal

pub loop-i-preserved : goal.loop-i-preserved
loop-i-preserved c =
    let below = c.loop-i-test.true in
    let left : suc (c.args.q - (c.loop-i._i + 1)) ≡ c.args.q - c.loop-i._i = omega (arith, below) in
    ap (λ n. is_bit n c.loop-i.rest) left ∙ c.loop-i.invariant
