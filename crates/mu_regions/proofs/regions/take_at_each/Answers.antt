use Rattle.std.proofs.Common.{subst, arith}
use Rattle.mu_regions.specs.Stands.{Holds}
use Rattle.mu_regions.specs.declared.region.Region.{Region}
use Rattle.mu_regions.proofs.Each.{taken_next, taken_all}
use Rattle.mu_regions.proofs.regions.take_at_each.Goals as goal

pub loop-region-init : goal.loop-region-init
loop-region-init c k past short near held p region at = (λ low. absurd (omega (arith, low)), λ _. held p region at)

pub loop-region-preserved : goal.loop-region-preserved
loop-region-preserved c k past short near held =
    taken_next k past c.args.event.now c.loop-region.region-index c.loop-region.regions c.region-item.result c.take.new.self (omega (arith, c.loop-region-test.true, c.loop-region.auto.regions)) c.region-item.is
    (λ was. c.take.ensures k c.loop-region.region-index past short near (subst (λ (region : Region). Holds k c.loop-region.region-index past region) c.region-item.is was)) (c.loop-region.invariant k past short near held)

pub returns : goal.returns
returns c k past short near held = taken_all k past c.args.event.now c.loop-region.region-index c.loop-region.regions (omega (arith, c.loop-region-test.false, c.loop-region.auto.regions)) (c.loop-region.invariant k past short near held)
