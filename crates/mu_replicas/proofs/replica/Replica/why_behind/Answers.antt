use Rattle.std.proofs.Common.{true, [], ◌++◌, ◌∷◌, ◌≡◌, ℕ, List, sym, subst, arith, inl, inr}
use Rattle.std.proofs.lemmas.List.{append-nil}
use Rattle.mu_model.specs.Placing.{is_caught_up_at}
use Rattle.std.proofs.lemmas.Bool.{cases_lt}
use Rattle.mu_model.specs.declared.reason.Reason.{Reason}
use Rattle.mu_model.specs.Points.{each_below}
use Rattle.mu_model.specs.Reasons.{Finds}
use Rattle.mu_model.proofs.AllMet.{each_met, met_each, met_rest}
use Rattle.mu_replicas.proofs.Points.{more_met, one_more, all_of}
use Rattle.mu_replicas.proofs.replica.Replica.why_behind.Goals as goal

pub loop-j-init : goal.loop-j-init
loop-j-init c r mine reasons possible held start = subst (λ l. Finds c.args.config.now r mine l c.args.found.reason) (sym (append-nil reasons)) start

pub loop-j-preserved : goal.loop-j-preserved
loop-j-preserved c r mine reasons possible held start =
    let k = c.args.config.now in
    let p = c.args.p in
    let j = c.loop-j.j in
    let of_each : ℕ → List Reason = λ j. Reason.Behind p j ∷ [] in
    let so_far = reasons ++ each_below j of_each in
    let up = c.is_caught_up_below-caught_up.ensures k r mine c.requires possible held.filled_logs in
    let next = c.needs-found.ensures k r mine so_far (c.loop-j.invariant r mine reasons possible held start) (λ m. (
      λ t. up.0 t j (omega arith),
      λ h. up.1 (λ i below. elim (cases_lt i j) [ inl lesser ↦ (met_each k r mine j of_each (met_rest k r mine reasons (each_below j of_each) m) i lesser).0 | inr at ↦ subst (λ n. is_caught_up_at k r p mine n ≡ true) (omega (arith, at, below)) h ]),
    )) in
    one_more k r mine reasons j of_each _ next

pub returns : goal.returns
returns c r mine reasons possible held start =
    all_of c.args.config.now r mine reasons c.loop-j.j c.args.i (λ j. Reason.Behind c.args.p j ∷ []) _ (omega (arith, c.loop-j-test.false, c.loop-j.auto.j-end)) (c.loop-j.invariant r mine reasons possible held start)

pub returns-then-all : goal.returns-then-all
returns-then-all c r mine reasons possible held start =
    let k = c.args.config.now in
    let p = c.args.p in
    let i = c.args.i in
    let of_each : ℕ → List Reason = λ j. Reason.Behind p j ∷ [] in
    let caught = (c.is_caught_up_below-all.ensures k r mine c.requires possible held.filled_logs).0 c.if-all.true in
    more_met k r mine reasons (each_below i of_each) _ (each_met k r mine i of_each (λ j low. (caught j low, tt))) start
