use Rattle.std.proofs.lemmas.List.{append-nil}
use Rattle.std.proofs.Common.{◌%◌, ◌+◌, ◌<◌, ◌++◌, ◌≡◌, ◌∙◌, ℕ, List, refl, sym, subst, arith}
use Rattle.mu_model.specs.Contents.{rest_of, row_count}
use Rattle.mu_agree.proofs.Sessions.{batch_within}
use Rattle.mu_model.specs.declared.reason.Reason.{Reason}
use Rattle.mu_model.specs.Points.{batch_written, each_below, row_written}
use Rattle.mu_model.specs.Reasons.{Finds}
use Rattle.mu_model.proofs.Putting.{batch_written_met}
use Rattle.mu_replicas.proofs.Points.{more_met, one_more}
use Rattle.mu_replicas.proofs.replica.Replica.why_not_written.Goals as goal

pub loop-t-init : goal.loop-t-init
loop-t-init c r mine reasons near held start = subst (λ l. Finds c.args.config.now r mine l c.args.found.reason) (sym (append-nil reasons)) start

pub loop-t-preserved : goal.loop-t-preserved
loop-t-preserved c r mine reasons near held start =
    let g = c.args.config.now in
    let t = c.loop-t.t in
    let v = c.args.v in
    let of_each : ℕ → List Reason = λ t. row_written v (v % 4096 + t) in
    let so_far = reasons ++ each_below t of_each in
    let last = batch_within g c.requires (rest_of g (v % 4096)) (v % 4096) near refl in
    let rest = c.from-rows.ensures ∙ c.row_rest.ensures in
    let here = c.loop-t-test.true in
    let there : v % 4096 + t < row_count g = omega (arith, last, rest, here) in
    one_more g r mine reasons t of_each _ (c.why_row_not_written-found.ensures r mine so_far there held (c.loop-t.invariant r mine reasons near held start))

pub returns : goal.returns
returns c r mine reasons near held start =
    let g = c.args.config.now in
    let v = c.args.v in
    let of_each : ℕ → List Reason = λ t. row_written v (v % 4096 + t) in
    let rest = c.from-rows.ensures ∙ c.row_rest.ensures in
    let all : c.loop-t.t ≡ rest_of g (v % 4096) + 1 = omega (arith, rest, c.loop-t-test.false, c.loop-t.auto.t-end) in
    subst (λ n. Finds g r mine (reasons ++ each_below n of_each) c.loop-t.found.reason) all (c.loop-t.invariant r mine reasons near held start)

pub returns-then-all : goal.returns-then-all
returns-then-all c r mine reasons near held start =
    let g = c.args.config.now in
    let v = c.args.v in
    let wrote = sym (c.wrote_batch-all.ensures r mine c.requires near held.held_rows) ∙ c.if-all.true in
    more_met g r mine reasons (batch_written g v) _ ((batch_written_met g r mine v).1 wrote) start
