use Rattle.std.proofs.Common.{◌≡◌, ◌∙◌, ◌+◌, ◌<◌, Some, ap, arith, length, map, suc, sym}
use Rattle.std.specs.List.{slice_get}
use Rattle.std.specs.Option.{option_map}
use Rattle.std.proofs.lemmas.List.{length-map}
use Rattle.std.proofs.lemmas.Option.{slice_get-map}
use Rattle.mu_engine.specs.declared.hold.Hold.{Hold}
use Rattle.mu_engine.specs.Live.{Live, after_round, changed_at, held}
use Rattle.mu_eras.proofs.Holds.{length_mixed, mixed, mixed_all, mixed_at, mixed_next, with_holds}
use Rattle.mu_eras.proofs.keeping.let_pass.Goals as goal

pub hold_of-before-requires : goal.hold_of-before-requires
hold_of-before-requires c =
    let same = ap (λ k. k.replicas) c.config.ensures.config in
    let long = ap (λ (v : Live). length v.holds) c.loop-r.invariant in
    let all = length_mixed c.loop-r.r (map after_round c.args.engine.now.holds) c.args.engine.now.holds in
    omega (arith, c.loop-r-test.true, long, all, c.config.ensures.replicas, same)

pub hold-requires : goal.hold-requires
hold-requires c =
    let same = ap (λ k. k.replicas) c.config.ensures.config in
    let long = ap (λ (v : Live). length v.holds) c.loop-r.invariant in
    let all = length_mixed c.loop-r.r (map after_round c.args.engine.now.holds) c.args.engine.now.holds in
    omega (arith, c.loop-r-test.true, long, all, c.config.ensures.replicas, same)

pub loop-r-preserved : goal.loop-r-preserved
loop-r-preserved c =
    let olds = c.args.engine.now.holds in
    let news = map after_round c.args.engine.now.holds in
    let r = c.loop-r.r in
    let before = c.hold_of-before.result in
    let after : Hold = record { stopped = before.stopped; rounds = c.saturating_sub.result } in
    let same = ap (λ k. k.replicas) c.config.ensures.config in
    let low : c.loop-r.r < length c.args.engine.now.holds = omega (arith, c.loop-r-test.true, c.config.ensures.replicas, same) in
    let one : suc c.loop-r.r ≡ c.loop-r.r + 1 = omega arith in
    let was : slice_get olds r ≡ Some before = sym (mixed_at r news olds) ∙ ap (λ (v : Live). slice_get v.holds r) (sym c.loop-r.invariant) ∙ c.hold_of-before.ensures in
    let at : slice_get news r ≡ Some after = slice_get-map after_round olds r ∙ ap (option_map after_round) was ∙ ap (λ n. Some (record { stopped = before.stopped; rounds = n })) (sym c.saturating_sub.ensures) in
    c.hold.ensures ∙ ap (λ (v : Live). with_holds v (changed_at (held after) v.holds r)) c.loop-r.invariant
    ∙ ap (with_holds c.args.engine.now) (mixed_next r news olds after at low ∙ ap (λ n. mixed n news olds) one)

pub returns : goal.returns
returns c =
    let same = ap (λ k. k.replicas) c.config.ensures.config in
    let many = length-map c.args.engine.now.holds after_round in
    c.loop-r.invariant
    ∙ ap (with_holds c.args.engine.now)
    (mixed_all c.loop-r.r (map after_round c.args.engine.now.holds) c.args.engine.now.holds (omega (arith, many, c.loop-r-test.false, c.loop-r.auto.r-end, c.config.ensures.replicas, same)) (sym many))
