use Rattle.std.proofs.Common.{[], ◌∷◌, subst}
use Rattle.mu_model.specs.declared.reason.Reason.{Reason}
use Rattle.mu_model.specs.Reasons.{Finds}
use Rattle.mu_replicas.proofs.Points.{less_from}
use Rattle.mu_replicas.proofs.replica.Replica.why_no_step.Goals as goal

pub returns : goal.returns
returns c r mine held =
    let k = c.args.config.now in
    let replica = c.args.self.now.replica in
    let steps = c.args.self.now.steps in
    let one = c.needs.ensures k r mine [] (c.new.ensures.finds k r mine) (λ m. less_from _ _ _ held.replica) in
    let two = c.needs-2.ensures k r mine (Reason.NoReplica replica ∷ []) one (λ m. less_from _ _ _ held.steps) in
    let first = subst (λ q. Finds k r mine (Reason.NoReplica q ∷ Reason.Budget steps ∷ []) c.needs-2.result.reason) held.replica two in
    subst (λ n. Finds k r mine (Reason.NoReplica r ∷ Reason.Budget n ∷ []) c.needs-2.result.reason) held.steps first
