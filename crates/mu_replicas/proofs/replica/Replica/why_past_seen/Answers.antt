use Rattle.std.proofs.lemmas.List.{append-nil}
use Rattle.std.proofs.Common.{[], ◌++◌, ◌∷◌, ℕ, List, sym, subst, arith}
use Rattle.mu_model.specs.declared.reason.Reason.{Reason}
use Rattle.mu_model.specs.Points.{each_below}
use Rattle.mu_model.specs.Reasons.{Finds}
use Rattle.mu_replicas.proofs.Points.{one_more, low, tells, all_of}
use Rattle.mu_replicas.proofs.replica.Replica.why_past_seen.Goals as goal

pub loop-p-init : goal.loop-p-init
loop-p-init c r mine reasons near held start = subst (λ l. Finds c.args.config.now r mine l c.args.found.reason) (sym (append-nil reasons)) start

pub loop-p-preserved : goal.loop-p-preserved
loop-p-preserved c r mine reasons near held start =
    let k = c.args.config.now in
    let p = c.loop-p.p in
    let of_each : ℕ → List Reason = λ p. Reason.PastSeen p c.args.i ∷ [] in
    let so_far = reasons ++ each_below p of_each in
    let below = low _ _ c.loop-p-test.true c.requires.replicas.1 in
    let next = c.needs-found.ensures k r mine so_far (c.loop-p.invariant r mine reasons near held start) (λ m. tells _ _ (c.is_clear-clear.ensures k r mine below near held.leadership held.looks)) in
    one_more k r mine reasons p of_each _ next

pub returns : goal.returns
returns c r mine reasons near held start =
    all_of c.args.config.now r mine reasons c.loop-p.p c.args.config.now.replicas (λ p. Reason.PastSeen p c.args.i ∷ []) _ (omega (arith, c.loop-p-test.false, c.loop-p.auto.p-end)) (c.loop-p.invariant r mine reasons near held start)
