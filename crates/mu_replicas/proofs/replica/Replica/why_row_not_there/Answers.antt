use Rattle.std.proofs.lemmas.List.{append-nil}
use Rattle.std.proofs.Common.{[], ◌%◌, ◌/◌, ◌<◌, ◌++◌, ◌∷◌, ◌≡◌, ℕ, List, sym, subst, arith}
use Rattle.mu_model.specs.Contents.{row_count}
use Rattle.mu_model.specs.Knowledge.{has_word}
use Rattle.mu_knowledge.specs.HeldRows.{HasWords}
use Rattle.mu_model.specs.declared.reason.Reason.{Reason}
use Rattle.mu_model.specs.Points.{each_below}
use Rattle.mu_model.specs.Reasons.{Finds}
use Rattle.mu_replicas.proofs.Points.{one_more, tells, all_of}
use Rattle.mu_replicas.proofs.replica.Replica.why_row_not_there.Goals as goal

pub loop-k-init : goal.loop-k-init
loop-k-init c r mine reasons few near held start = subst (λ l. Finds c.args.config.now r mine l c.args.found.reason) (sym (append-nil reasons)) start

pub loop-k-preserved : goal.loop-k-preserved
loop-k-preserved c r mine reasons few near held start =
    let g = c.args.config.now in
    let k = c.loop-k.k in
    let v = c.args.v in
    let of_each : ℕ → List Reason = λ k. Reason.NoRowWord c.args.h c.args.applied v k ∷ [] in
    let so_far = reasons ++ each_below k of_each in
    let has = subst (λ w. w / 4096 < 7 → w % 4096 < row_count g → k < 12 → HasWords g r mine c.args.self.now.held_rows.got.items → c.has_word-there.result ≡ has_word r w k mine) c.from.ensures (c.has_word-there.ensures g r mine) in
    let next = c.needs-found.ensures g r mine so_far (c.loop-k.invariant r mine reasons few near held start) (λ m. tells _ _ (has few near c.loop-k-test.true held.held_rows.got)) in
    one_more g r mine reasons k of_each _ next

pub returns : goal.returns
returns c r mine reasons few near held start =
    all_of c.args.config.now r mine reasons c.loop-k.k 12 (λ k. Reason.NoRowWord c.args.h c.args.applied c.args.v k ∷ []) _ (omega (arith, c.loop-k-test.false, c.loop-k.auto.k-end)) (c.loop-k.invariant r mine reasons few near held start)
