use Rattle.std.proofs.Common.{arith, not, sym, subst, ap, refl, ◌∙◌, ◌<◌, ◌≡◌, true, false}
use Rattle.mu_model.specs.Serving.{has_unserved_ask}
use Rattle.mu_grant.proofs.Waiting.{IsFirst, all_more}
use Rattle.mu_grant.proofs.grants.Grants.first_waiting.Goals as goal
use Rattle.mu_model.proofs.Basics.{same_some}

pub returns-then-is_waiting-clause-found : goal.returns-then-is_waiting-clause-found
returns-then-is_waiting-clause-found c n r w mine held is =
    let low : c.loop-w.w < n = omega (arith, c.loop-w-test.true, held.replicas, c.loop-w.auto.w-end) in
    let waits : has_unserved_ask r mine c.loop-w.w ≡ true = sym (c.is_waiting.ensures n r mine low held) ∙ c.if-is_waiting.true in
    subst (λ q. IsFirst n r mine q) (same_some c.loop-w.w w is) (low, rw (waits, c.loop-w.invariant n r mine held) refl)

pub loop-w-preserved : goal.loop-w-preserved
loop-w-preserved c n r mine held =
    let low : c.loop-w.w < n = omega (arith, c.loop-w-test.true, held.replicas, c.loop-w.auto.w-end) in
    let rests : has_unserved_ask r mine c.loop-w.w ≡ false = sym (c.is_waiting.ensures n r mine low held) ∙ c.if-is_waiting.false in
    all_more c.loop-w.w (λ w. not (has_unserved_ask r mine w)) (ap not rests) (c.loop-w.invariant n r mine held)
