use Rattle.std.proofs.Common.{◌++◌, sym, ◌∙◌, subst}
use Rattle.mu_model.specs.Points.{picks}
use Rattle.mu_model.specs.Reasons.{Finds}
use Rattle.mu_replicas.proofs.Points.{equal}
use Rattle.mu_replicas.proofs.replica.Replica.why_no_pick.Goals as goal

pub returns-in-Some : goal.returns-in-Some
returns-in-Some c r mine reasons near held start =
    let k = c.args.config.now in
    let shown = c.highest_accepted.ensures k r mine c.requires.replicas.1 near held.leadership held.looks in
    subst (λ o. Finds k r mine (reasons ++ picks k r mine c.args.i c.args.v o) c.needs.result.reason) (sym c.in-Some.is ∙ shown)
    (c.needs.ensures k r mine reasons start (λ m. equal _ _))

pub returns-in-None : goal.returns-in-None
returns-in-None c r mine reasons near held start =
    let k = c.args.config.now in
    let shown = c.highest_accepted.ensures k r mine c.requires.replicas.1 near held.leadership held.looks in
    subst (λ o. Finds k r mine (reasons ++ picks k r mine c.args.i c.args.v o) c.why_no_offer.result.reason) (sym c.in-None.is ∙ shown)
    (c.why_no_offer.ensures r mine reasons held start)
