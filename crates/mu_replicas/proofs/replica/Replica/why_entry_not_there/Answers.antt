use Rattle.std.proofs.lemmas.List.{append-nil}
use Rattle.std.proofs.Common.{[], ◌%◌, ◌+◌, ◌++◌, ◌≡◌, ◌∙◌, ℕ, List, sym, subst, arith}
use Rattle.std.specs.Prelude.{if◌then◌else◌}
use Rattle.mu_model.specs.Contents.{rest_of}
use Rattle.mu_knowledge.proofs.Fetched.{batch_there}
use Rattle.mu_model.specs.declared.reason.Reason.{Reason}
use Rattle.mu_model.specs.Points.{each_below, row_there}
use Rattle.mu_model.specs.Reasons.{Finds}
use Rattle.mu_replicas.proofs.Points.{no_more, one_more}
use Rattle.mu_replicas.proofs.replica.Replica.why_entry_not_there.Goals as goal

pub returns-then-not-stands_for_batch : goal.returns-then-not-stands_for_batch
returns-then-not-stands_for_batch c r mine reasons held start =
    let g = c.args.config.now in
    let v = c.args.v in
    let is = sym c.stands_for_batch.ensures ∙ c.if-not-stands_for_batch.true in
    subst (λ t. Finds g r mine (reasons ++ (if t then each_below (rest_of g (v % 4096) + 1) (λ t. row_there c.args.h c.args.applied (v + t)) else [])) c.args.found.reason) (sym is) (no_more g r mine reasons _ start)

pub loop-t-init : goal.loop-t-init
loop-t-init c r mine reasons held start = subst (λ l. Finds c.args.config.now r mine l c.args.found.reason) (sym (append-nil reasons)) start

pub loop-t-preserved : goal.loop-t-preserved
loop-t-preserved c r mine reasons held start =
    let g = c.args.config.now in
    let t = c.loop-t.t in
    let v = c.args.v in
    let of_each : ℕ → List Reason = λ t. row_there c.args.h c.args.applied (v + t) in
    let so_far = reasons ++ each_below t of_each in
    let there = batch_there g v c.requires (sym c.stands_for_batch.ensures ∙ c.if-not-stands_for_batch.false) in
    let rest = c.from-rows.ensures ∙ c.row_rest.ensures in
    let here = c.loop-t-test.true in
    let few = c.requires.few in
    let sum : c.saturating_add.result ≡ v + t = omega (arith, c.saturating_add.ensures, there.0, there.1, rest, here, few) in
    let next = c.why_row_not_there-found.ensures r mine so_far (omega (arith, sum, there.0, there.1, rest, here, few)) (omega (arith, sum, there.0, there.1, rest, here, few)) held (c.loop-t.invariant r mine reasons held start) in
    one_more g r mine reasons t of_each _ (subst (λ w. Finds g r mine (so_far ++ row_there c.args.h c.args.applied w) c.why_row_not_there-found.result.reason) sum next)

pub returns : goal.returns
returns c r mine reasons held start =
    let g = c.args.config.now in
    let v = c.args.v in
    let is = sym c.stands_for_batch.ensures ∙ c.if-not-stands_for_batch.false in
    let of_each : ℕ → List Reason = λ t. row_there c.args.h c.args.applied (v + t) in
    let rest = c.from-rows.ensures ∙ c.row_rest.ensures in
    let all : c.loop-t.t ≡ rest_of g (v % 4096) + 1 = omega (arith, rest, c.loop-t-test.false, c.loop-t.auto.t-end) in
    subst (λ t. Finds g r mine (reasons ++ (if t then each_below (rest_of g (v % 4096) + 1) of_each else [])) c.loop-t.found.reason) (sym is)
    (subst (λ n. Finds g r mine (reasons ++ each_below n of_each) c.loop-t.found.reason) all (c.loop-t.invariant r mine reasons held start))
