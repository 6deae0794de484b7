use Rattle.std.proofs.Common.{◌++◌, sym, ◌∙◌, subst}
use Rattle.mu_model.specs.Points.{entry_there}
use Rattle.mu_model.specs.Reasons.{Finds}
use Rattle.mu_replicas.proofs.Points.{no_more}
use Rattle.mu_replicas.proofs.replica.Replica.why_next_not_there.Goals as goal

pub returns-in-None : goal.returns-in-None
returns-in-None c r mine reasons held start =
    let g = c.args.config.now in
    let is = sym c.in-None.is ∙ c.value_at.ensures g r mine held in
    subst (λ o. Finds g r mine (reasons ++ entry_there g c.args.h c.args.applied o) c.args.found.reason) is (no_more g r mine reasons _ start)

pub returns-in-Some : goal.returns-in-Some
returns-in-Some c r mine reasons held start =
    let g = c.args.config.now in
    let is = sym c.in-Some.is ∙ c.value_at.ensures g r mine held in
    subst (λ o. Finds g r mine (reasons ++ entry_there g c.args.h c.args.applied o) c.why_entry_not_there.result.reason) is (c.why_entry_not_there.ensures r mine reasons held start)
