use Rattle.std.proofs.Common.{◌∷◌, arith, refl}
use Rattle.mu_placing.specs.FilledLogs.{HoldsCoverage}
use Rattle.mu_model.proofs.Lists.{upto_all, upto_next}
use Rattle.mu_placing.proofs.filled_logs.take_at_each.Goals as goal

pub loop-region-init : goal.loop-region-init
loop-region-init c c' mine config possible before after landings held p region at = (λ low. absurd (omega (arith, low)), λ low. held p region at)

pub loop-region-preserved : goal.loop-region-preserved
loop-region-preserved c c' mine config possible before after landings held =
    upto_next (λ p region. HoldsCoverage c' c.args.r p mine region) (λ p region. HoldsCoverage c' c.args.r p (c.args.event.now ∷ mine) region) c.loop-region.region-index c.loop-region.region-index c.loop-region.regions c.region-item.result c.take.new.self refl (omega (arith, c.loop-region-test.true, c.loop-region.auto.regions))
    (λ was. c.take.ensures c' mine config possible before after landings c.loop-region.region-index was)
    (c.loop-region.invariant c' mine config possible before after landings held)

pub returns : goal.returns
returns c c' mine config possible before after landings held =
    upto_all (λ p region. HoldsCoverage c' c.args.r p mine region) (λ p region. HoldsCoverage c' c.args.r p (c.args.event.now ∷ mine) region) c.loop-region.region-index c.loop-region.regions (omega (arith, c.loop-region-test.false, c.loop-region.auto.regions))
    (c.loop-region.invariant c' mine config possible before after landings held)
