use Rattle.std.proofs.Common.{[], ◌++◌, ◌∷◌, ℕ, List, subst, sym, ◌∙◌}
use Rattle.std.proofs.lemmas.Bool.{false≢true}
use Rattle.mu_model.specs.declared.reason.Reason.{Reason}
use Rattle.mu_model.specs.Points.{bounds, each_below, last_position, values, puts}
use Rattle.mu_model.specs.Reasons.{Finds}
use Rattle.mu_replicas.proofs.Points.{apart, stops}
use Rattle.mu_replicas.proofs.replica.Replica.why_no_put.Goals as goal

pub returns-then-not-there : goal.returns-then-not-there
returns-then-not-there c r mine possible held start =
    let k = c.args.config.now in
    let p = c.args.p in
    let i = c.args.i in
    let one = c.why_no_region.ensures r mine held start in
    let two = subst (λ n. Finds k r mine (bounds r mine ++ Reason.NoRegion p ∷ Reason.NoPosition i n ∷ []) c.needs-found.result.reason) c.last_position-last.ensures (c.needs-found.ensures k r mine (bounds r mine ++ Reason.NoRegion p ∷ []) one (λ m. c.is_position-there.ensures)) in
    let of_each : ℕ → List Reason = λ j. Reason.Behind p j ∷ [] in
    stops k r mine (bounds r mine ++ Reason.NoRegion p ∷ Reason.NoPosition i (last_position k) ∷ []) (puts k r mine p i c.args.b ++ (each_below i of_each ++ values k r mine i c.args.v)) _
    (λ m. false≢true (sym c.if-not-there.true ∙ c.is_position-there.ensures.1 m.1.1.1.0)) two

pub returns : goal.returns
returns c r mine possible held start =
    let k = c.args.config.now in
    let p = c.args.p in
    let i = c.args.i in
    let near = c.is_position-there.ensures.0 c.if-not-there.false in
    let of_each : ℕ → List Reason = λ j. Reason.Behind p j ∷ [] in
    let one = c.why_no_region.ensures r mine held start in
    let two = subst (λ n. Finds k r mine (bounds r mine ++ Reason.NoRegion p ∷ Reason.NoPosition i n ∷ []) c.needs-found.result.reason) c.last_position-last.ensures (c.needs-found.ensures k r mine (bounds r mine ++ Reason.NoRegion p ∷ []) one (λ m. c.is_position-there.ensures)) in
    let three = c.why_not_leading-found.ensures r mine held two in
    let front = bounds r mine ++ Reason.NoRegion p ∷ Reason.NoPosition i (last_position k) ∷ [] in
    let leads = puts k r mine p i c.args.b in
    let four = c.why_behind-found.ensures r mine (front ++ leads) possible held three in
    let five = c.why_no_value.ensures r mine ((front ++ leads) ++ each_below i of_each) near held four in
    apart k r mine front leads (each_below i of_each ++ values k r mine i c.args.v) _ (apart k r mine (front ++ leads) (each_below i of_each) (values k r mine i c.args.v) _ five)
