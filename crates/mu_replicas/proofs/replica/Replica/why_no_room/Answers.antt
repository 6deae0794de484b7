use Rattle.std.proofs.lemmas.List.{append-nil}
use Rattle.std.specs.Prelude.{nat_lt, ◌||◌}
use Rattle.mu_model.specs.Contents.{marked}
use Rattle.mu_model.specs.Knowledge.{known}
use Rattle.mu_model.specs.Room.{last_head}
use Rattle.std.proofs.Common.{[], ◌++◌, ◌∷◌, ◌+◌, ℕ, List, sym, ◌∙◌, ap, subst, arith}
use Rattle.mu_model.specs.declared.reason.Reason.{Reason}
use Rattle.mu_model.specs.Points.{each_below}
use Rattle.mu_model.specs.Reasons.{Finds}
use Rattle.mu_replicas.proofs.Points.{one_more, tells, all_of}
use Rattle.mu_replicas.proofs.replica.Replica.why_no_room.Goals as goal

pub loop-q-init : goal.loop-q-init
loop-q-init c r mine reasons held start = subst (λ l. Finds c.args.config.now r mine l c.args.found.reason) (sym (append-nil reasons)) start

pub loop-q-preserved : goal.loop-q-preserved
loop-q-preserved c r mine reasons held start =
    let k = c.args.config.now in
    let q = c.loop-q.q in
    let of_each : ℕ → List Reason = λ q. Reason.NoRoom c.args.i c.args.free q (last_head r q mine) ∷ [] in
    let head = c.last_head-head.ensures k r mine c.loop-q-test.true c.requires.replicas.1 held.heads in
    let so_far = reasons ++ each_below q of_each in
    let next = c.needs-found.ensures k r mine so_far (c.loop-q.invariant r mine reasons held start) (λ m. tells _ _ (c.leaves_room-room.ensures r mine c.loop-q-test.true held ∙ ap (λ h. marked k q (known k r mine) || nat_lt (c.args.i + c.args.free) (h + k.ring)) (sym head))) in
    one_more k r mine reasons q of_each _ (subst (λ h. Finds k r mine (so_far ++ Reason.NoRoom c.args.i c.args.free q h ∷ []) c.needs-found.result.reason) head next)

pub returns : goal.returns
returns c r mine reasons held start =
    all_of c.args.config.now r mine reasons c.loop-q.q c.args.config.now.replicas (λ q. Reason.NoRoom c.args.i c.args.free q (last_head r q mine) ∷ []) _ (omega (arith, c.loop-q-test.false, c.loop-q.auto.q-end)) (c.loop-q.invariant r mine reasons held start)
