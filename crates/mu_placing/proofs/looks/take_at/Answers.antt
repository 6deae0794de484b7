use Rattle.std.proofs.Common.{arith, ◌∷◌}
use Rattle.mu_leadership.proofs.SetOne.{none_set, one_set}
use Rattle.mu_placing.specs.Looks.{StandsForRegionLooks}
use Rattle.mu_placing.proofs.Elsewhere.{region_stays}
use Rattle.mu_placing.proofs.Apart.{looks_apart}
use Rattle.mu_placing.proofs.looks.take_at.Goals as goal

pub returns-then-at-regions : goal.returns-then-at-regions
returns-then-at-regions c names k mine ring at held =
    let r = c.args.r in
    let p = c.args.p in
    let e = c.args.event.now in
    one_set (λ q d. StandsForRegionLooks k r q mine d) (λ q d. StandsForRegionLooks k r q (e ∷ mine) d) c.from-at.result p c.args.regions.now _ c.take.new.self c.from-at.ensures (omega (arith, c.if-at-regions.true, c.from-at.ensures)) (c.take.ensures k p mine ring at)
    (λ q looks other was. region_stays k r q e mine looks (looks_apart q p e.verb names other) was) held

pub returns-else-at-regions : goal.returns-else-at-regions
returns-else-at-regions c names k mine ring at held =
    let r = c.args.r in
    let p = c.args.p in
    let e = c.args.event.now in
    none_set (λ q d. StandsForRegionLooks k r q mine d) (λ q d. StandsForRegionLooks k r q (e ∷ mine) d) p c.args.regions.now (omega (arith, c.if-at-regions.false, c.from-at.ensures))
    (λ q looks other was. region_stays k r q e mine looks (looks_apart q p e.verb names other) was) held
