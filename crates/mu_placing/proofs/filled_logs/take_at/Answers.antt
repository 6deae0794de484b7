use Rattle.std.proofs.Common.{arith, ◌∷◌}
use Rattle.mu_leadership.proofs.SetOne.{none_set, one_set}
use Rattle.mu_placing.specs.FilledLogs.{HoldsCoverage}
use Rattle.mu_placing.proofs.Calm.{coverage_stays}
use Rattle.mu_placing.proofs.filled_logs.take_at.Goals as goal

pub returns-then-at-regions : goal.returns-then-at-regions
returns-then-at-regions c c' mine config possible before after landings same names held =
    let r = c.args.r in
    let p = c.args.p in
    let e = c.args.event.now in
    one_set (λ q d. HoldsCoverage c' r q mine d) (λ q d. HoldsCoverage c' r q (e ∷ mine) d) c.from-at.result p c.args.regions.now _ c.take.new.self c.from-at.ensures (omega (arith, c.if-at-regions.true, c.from-at.ensures))
    (c.take.ensures c' mine config possible before after landings p) (λ q region other was. coverage_stays c' r q p e mine region same names other was) held

pub returns-else-at-regions : goal.returns-else-at-regions
returns-else-at-regions c c' mine config possible before after landings same names held =
    let r = c.args.r in
    let p = c.args.p in
    let e = c.args.event.now in
    none_set (λ q d. HoldsCoverage c' r q mine d) (λ q d. HoldsCoverage c' r q (e ∷ mine) d) p c.args.regions.now (omega (arith, c.if-at-regions.false, c.from-at.ensures)) (λ q region other was. coverage_stays c' r q p e mine region same names other was) held
