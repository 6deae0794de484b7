use Rattle.std.proofs.Common.{◌≡◌, ◌∙◌, ◌+◌, ◌<◌, ap, arith, length, suc}
use Rattle.mu_engine.specs.Live.{Live, changed_at, held}
use Rattle.mu_eras.proofs.Holds.{length_mixed, mixed, mixed_all, mixed_next, with_holds}
use Rattle.mu_eras.proofs.keeping.hold_as.Goals as goal

pub hold-requires : goal.hold-requires
hold-requires c =
    let same = ap (λ k. k.replicas) c.config.ensures.config in
    let long = ap (λ (v : Live). length v.holds) c.loop-r.invariant in
    let all = length_mixed c.loop-r.r c.args.engine.now.holds c.args.next.now.holds in
    omega (arith, c.loop-r-test.true, long, all, c.requires, c.config.ensures.replicas, same)

pub loop-r-preserved : goal.loop-r-preserved
loop-r-preserved c =
    let same = ap (λ k. k.replicas) c.config.ensures.config in
    let low : c.loop-r.r < length c.args.next.now.holds = omega (arith, c.loop-r-test.true, c.requires, c.config.ensures.replicas, same) in
    let one : suc c.loop-r.r ≡ c.loop-r.r + 1 = omega arith in
    c.hold.ensures ∙ ap (λ (v : Live). with_holds v (changed_at (held c.hold_of.result) v.holds c.loop-r.r)) c.loop-r.invariant
    ∙ ap (with_holds c.args.next.now) (mixed_next c.loop-r.r c.args.engine.now.holds c.args.next.now.holds c.hold_of.result c.hold_of.ensures low ∙ ap (λ n. mixed n c.args.engine.now.holds c.args.next.now.holds) one)

pub returns : goal.returns
returns c =
    let same = ap (λ k. k.replicas) c.config.ensures.config in
    c.loop-r.invariant
    ∙ ap (with_holds c.args.next.now) (mixed_all c.loop-r.r c.args.engine.now.holds c.args.next.now.holds (omega (arith, c.loop-r-test.false, c.loop-r.auto.r-end, c.config.ensures.replicas, same)) c.requires)
