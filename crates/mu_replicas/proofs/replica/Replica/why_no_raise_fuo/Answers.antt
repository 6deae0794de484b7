use Rattle.mu_model.proofs.Scans.{all_at, each_all}
use Rattle.std.proofs.Common.{[], ◌++◌, ◌∷◌, ◌+◌, ◌≡◌, ℕ, List, true, refl, sym, ◌∙◌, ap, subst, arith, inl, inr, length}
use Rattle.std.proofs.lemmas.Bool.{cases_lt}
use Rattle.mu_model.specs.Knowledge.{is_filled, known}
use Rattle.mu_model.specs.declared.reason.Reason.{Reason}
use Rattle.mu_model.specs.Points.{bounds, each_below}
use Rattle.mu_model.specs.Reasons.{Finds}
use Rattle.mu_model.proofs.AllMet.{each_met, met_each, met_rest}
use Rattle.mu_replicas.proofs.Points.{at_most_as, more_met, no_more, one_more}
use Rattle.mu_replicas.proofs.replica.Replica.why_no_raise_fuo.Goals as goal

pub loop-j-init : goal.loop-j-init
loop-j-init c r mine possible held start =
    let k = c.args.config.now in
    let one = c.why_no_region.ensures r mine held start in
    let two = c.needs-found.ensures k r mine (bounds r mine ++ Reason.NoRegion c.args.p ∷ []) one (λ m. at_most_as _ _ _ _ c.from.ensures refl) in
    let count = ap length (c.known-known.ensures k r mine held.known_log) in
    no_more k r mine (bounds r mine ++ Reason.NoRegion c.args.p ∷ Reason.NotKnown c.args.u (length (known k r mine)) ∷ []) _
    (subst (λ n. Finds k r mine (bounds r mine ++ Reason.NoRegion c.args.p ∷ Reason.NotKnown c.args.u n ∷ []) c.needs-found.result.reason) count two)

pub loop-j-preserved : goal.loop-j-preserved
loop-j-preserved c r mine possible held start =
    let k = c.args.config.now in
    let p = c.args.p in
    let j = c.loop-j.j in
    let reasons = bounds r mine ++ Reason.NoRegion p ∷ Reason.NotKnown c.args.u (length (known k r mine)) ∷ [] in
    let of_each : ℕ → List Reason = λ j. Reason.NotFilled p j ∷ [] in
    let so_far = reasons ++ each_below j of_each in
    let next = c.needs-found-in-loop-j.ensures k r mine so_far (c.loop-j.invariant r mine possible held start) (λ m.
    let all = c.are_filled-filled.ensures k r mine c.requires possible held.filled_logs in (
      λ t. all_at (j + 1) (is_filled k r p mine) (sym all ∙ t) j (omega arith),
      λ h. all ∙ each_all (j + 1) (is_filled k r p mine) (λ i below. elim (cases_lt i j) [ inl lesser ↦ (met_each k r mine j of_each (met_rest k r mine reasons (each_below j of_each) m) i lesser).0 | inr at ↦ subst (λ n. is_filled k r p mine n ≡ true) (omega (arith, at, below)) h ]),
    )) in
    one_more k r mine reasons j of_each _ next

pub returns : goal.returns
returns c r mine possible held start =
    let k = c.args.config.now in
    let reasons = bounds r mine ++ Reason.NoRegion c.args.p ∷ Reason.NotKnown c.args.u (length (known k r mine)) ∷ [] in
    let of_each : ℕ → List Reason = λ j. Reason.NotFilled c.args.p j ∷ [] in
    let all : c.loop-j.j ≡ c.args.u = omega (arith, c.loop-j-test.false, c.loop-j.auto.j-end) in
    subst (λ n. Finds k r mine (reasons ++ each_below n of_each) c.loop-j.found.reason) all (c.loop-j.invariant r mine possible held start)

pub returns-then-all : goal.returns-then-all
returns-then-all c r mine possible held start =
    let k = c.args.config.now in
    let p = c.args.p in
    let u = c.args.u in
    let of_each : ℕ → List Reason = λ j. Reason.NotFilled p j ∷ [] in
    let one = c.why_no_region.ensures r mine held start in
    let two = c.needs-found.ensures k r mine (bounds r mine ++ Reason.NoRegion p ∷ []) one (λ m. at_most_as _ _ _ _ c.from.ensures refl) in
    let count = ap length (c.known-known.ensures k r mine held.known_log) in
    let three = subst (λ n. Finds k r mine (bounds r mine ++ Reason.NoRegion p ∷ Reason.NotKnown u n ∷ []) c.needs-found.result.reason) count two in
    let all = sym (c.are_filled-all.ensures k r mine c.requires possible held.filled_logs) ∙ c.if-all.true in
    more_met k r mine (bounds r mine ++ Reason.NoRegion p ∷ Reason.NotKnown u (length (known k r mine)) ∷ []) (each_below u of_each) _ (each_met k r mine u of_each (λ j low. (all_at u (is_filled k r p mine) all j low, tt))) three
