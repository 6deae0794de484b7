use Rattle.std.proofs.Common.{◌∷◌, arith, refl}
use Rattle.mu_placing.specs.Looks.{StandsForRegionLooks}
use Rattle.mu_model.proofs.Lists.{upto_all, upto_next}
use Rattle.mu_placing.proofs.looks.take_at_each.Goals as goal

pub loop-looks-preserved : goal.loop-looks-preserved
loop-looks-preserved c k mine ring at held =
    upto_next (λ p looks. StandsForRegionLooks k c.args.r p mine looks) (λ p looks. StandsForRegionLooks k c.args.r p (c.args.event.now ∷ mine) looks) c.loop-looks.looks-index c.loop-looks.looks-index c.loop-looks.regions c.looks-item.result c.take.new.self refl
    (omega (arith, c.loop-looks-test.true, c.loop-looks.auto.regions))
    (λ was. c.take.ensures k c.loop-looks.looks-index mine ring at was)
    (c.loop-looks.invariant k mine ring at held)

pub loop-looks-init : goal.loop-looks-init
loop-looks-init c k mine ring at held p looks there = (λ below. absurd (omega (arith, below)), λ above. held p looks there)

pub returns : goal.returns
returns c k mine ring at held =
    upto_all (λ p looks. StandsForRegionLooks k c.args.r p mine looks) (λ p looks. StandsForRegionLooks k c.args.r p (c.args.event.now ∷ mine) looks) c.loop-looks.looks-index c.loop-looks.regions
    (omega (arith, c.loop-looks-test.false, c.loop-looks.auto.regions)) (c.loop-looks.invariant k mine ring at held)
