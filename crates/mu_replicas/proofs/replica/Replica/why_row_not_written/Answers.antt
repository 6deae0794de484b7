use Rattle.std.proofs.lemmas.List.{append-nil}
use Rattle.std.proofs.Common.{[], ◌++◌, ◌∷◌, ℕ, List, sym, subst, arith}
use Rattle.mu_model.specs.declared.reason.Reason.{Reason}
use Rattle.mu_model.specs.Points.{each_below}
use Rattle.mu_model.specs.Reasons.{Finds}
use Rattle.mu_replicas.proofs.Points.{one_more, tells, all_of}
use Rattle.mu_replicas.proofs.replica.Replica.why_row_not_written.Goals as goal

pub loop-k-init : goal.loop-k-init
loop-k-init c r mine reasons near held start = subst (λ l. Finds c.args.config.now r mine l c.args.found.reason) (sym (append-nil reasons)) start

pub loop-k-preserved : goal.loop-k-preserved
loop-k-preserved c r mine reasons near held start =
    let g = c.args.config.now in
    let k = c.loop-k.k in
    let of_each : ℕ → List Reason = λ k. Reason.NotWritten c.args.v c.args.j k ∷ [] in
    let so_far = reasons ++ each_below k of_each in
    let next = c.needs-found.ensures g r mine so_far (c.loop-k.invariant r mine reasons near held start) (λ m. tells _ _ (c.has_written-written.ensures g r mine near c.loop-k-test.true held.held_rows)) in
    one_more g r mine reasons k of_each _ next

pub returns : goal.returns
returns c r mine reasons near held start =
    all_of c.args.config.now r mine reasons c.loop-k.k 12 (λ k. Reason.NotWritten c.args.v c.args.j k ∷ []) _ (omega (arith, c.loop-k-test.false, c.loop-k.auto.k-end)) (c.loop-k.invariant r mine reasons near held start)
