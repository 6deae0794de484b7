use Rattle.std.proofs.Common.{arith, sym, subst, ◌∙◌, ◌<◌, ◌≡◌, true, false}
use Rattle.mu_model.specs.Scores.{least_below, score}
use Rattle.mu_detect.proofs.Leaders.{alive_leads, failed_follows, may_lead, own_leads}
use Rattle.mu_model.proofs.Least.{least_found, least_next}
use Rattle.mu_detect.proofs.scores.Scores.leader.Goals as goal

pub returns-then-alive : goal.returns-then-alive
returns-then-alive c config r mine held =
    let low : c.loop-q.q < config.replicas = omega (arith, c.loop-q-test.true, held.id, held.inside, c.loop-q.auto.q-end) in
    let alive : (score r c.loop-q.q mine).1 ≡ true = sym (c.alive.ensures config.replicas r mine low held) ∙ c.if-alive.true in
    sym (least_found (may_lead r mine) config.replicas c.loop-q.q (c.loop-q.invariant config.replicas r mine held) (alive_leads r c.loop-q.q mine alive) low)

pub loop-q-preserved : goal.loop-q-preserved
loop-q-preserved c n r mine held =
    let below : c.loop-q.q < r = omega (arith, c.loop-q-test.true, held.id, c.loop-q.auto.q-end) in
    let low : c.loop-q.q < n = omega (arith, below, held.inside) in
    let failed : (score r c.loop-q.q mine).1 ≡ false = sym (c.alive.ensures n r mine low held) ∙ c.if-alive.false in
    least_next (may_lead r mine) c.loop-q.q (c.loop-q.invariant n r mine held) (failed_follows r c.loop-q.q mine below failed)

pub returns : goal.returns
returns c config r mine held =
    let here : c.loop-q.q ≡ r = omega (arith, c.loop-q-test.false, c.loop-q.auto.q-end, held.id) in
    let none : least_below r (may_lead r mine) ≡ r = subst (λ q. least_below q (may_lead r mine) ≡ q) here (c.loop-q.invariant config.replicas r mine held) in
    held.id ∙ sym (least_found (may_lead r mine) config.replicas r none (own_leads r mine) held.inside)
