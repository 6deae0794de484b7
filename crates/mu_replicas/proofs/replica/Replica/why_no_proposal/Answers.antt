use Rattle.std.proofs.Common.{[], ◌++◌, ◌∷◌, ℕ, List, sym, ◌∙◌, subst}
use Rattle.mu_model.specs.Picks.{highest_accepted}
use Rattle.mu_model.specs.declared.reason.Reason.{Reason}
use Rattle.mu_model.specs.Points.{each_below, picks, proposals}
use Rattle.mu_model.specs.Reasons.{Finds}
use Rattle.mu_replicas.proofs.Points.{apart, denies, equal}
use Rattle.mu_replicas.proofs.replica.Replica.why_no_proposal.Goals as goal

pub returns-in-Some : goal.returns-in-Some
returns-in-Some c r mine reasons near held start =
    let k = c.args.config.now in
    let i = c.args.i in
    let v = c.args.v in
    let first = c.first_value.ensures k r mine near held.looks in
    let one = c.needs.ensures k r mine reasons start (λ m. equal _ _) in
    let two = c.needs-in-Some.ensures k r mine (reasons ++ Reason.OtherFirst i v c.in-Some.first ∷ []) one (λ m. denies _ _ (c.has_joined_since.ensures k r mine near held.looks)) in
    subst (λ o. Finds k r mine (reasons ++ proposals k r mine i v o) c.needs-in-Some.result.reason) (sym c.in-Some.is ∙ first)
    (apart k r mine reasons (Reason.OtherFirst i v c.in-Some.first ∷ []) (Reason.JoinedSince i ∷ []) _ two)

pub returns-in-None : goal.returns-in-None
returns-in-None c r mine reasons near held start =
    let k = c.args.config.now in
    let i = c.args.i in
    let first = c.first_value.ensures k r mine near held.looks in
    let of_each : ℕ → List Reason = λ p. Reason.MemberNotLooked p i ∷ [] in
    let one = c.why_not_looked-found.ensures r mine reasons near held start in
    let two = c.why_no_pick.ensures r mine (reasons ++ each_below k.replicas of_each) near held one in
    subst (λ o. Finds k r mine (reasons ++ proposals k r mine i c.args.v o) c.why_no_pick.result.reason) (sym c.in-None.is ∙ first)
    (apart k r mine reasons (each_below k.replicas of_each) (picks k r mine i c.args.v (highest_accepted r i mine k.replicas)) _ two)
