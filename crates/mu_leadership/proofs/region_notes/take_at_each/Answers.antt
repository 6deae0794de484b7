use Rattle.std.proofs.Common.{arith, ◌∷◌, ◌≡◌, length, length-set, ◌∙◌}
use Rattle.mu_leadership.specs.Leadership.{StandsForRegionNotes}
use Rattle.mu_model.proofs.Lists.{upto_next, upto_all}
use Rattle.mu_leadership.proofs.region_notes.take_at_each.Goals as goal

pub loop-p-preserved : goal.loop-p-preserved
loop-p-preserved c =
    let seven : length c.loop-p.notes ≡ 7 = c.loop-p.invariant.count in
    record {
      count = length-set c.loop-p.notes c.from-at.result c.after.result ∙ seven;
      upto = λ mine other held.
          upto_next (λ p d. StandsForRegionNotes c.args.r p mine d) (λ p d. StandsForRegionNotes c.args.r p (c.args.event.now ∷ mine) d) c.loop-p.p c.from-at.result c.loop-p.notes _ c.after.result c.from-at.ensures (omega (arith, seven, c.loop-p-test.true))
          (λ was. c.after.ensures mine other was) (c.loop-p.invariant.upto mine other held);
    }

pub returns : goal.returns
returns c mine other held =
    let seven : length c.loop-p.notes ≡ 7 = c.loop-p.invariant.count in
    upto_all (λ p d. StandsForRegionNotes c.args.r p mine d) (λ p d. StandsForRegionNotes c.args.r p (c.args.event.now ∷ mine) d) c.loop-p.p c.loop-p.notes (omega (arith, seven, c.loop-p-test.false)) (c.loop-p.invariant.upto mine other held)
