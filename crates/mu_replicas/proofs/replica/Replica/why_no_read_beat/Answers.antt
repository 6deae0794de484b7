use Rattle.std.proofs.Common.{[], ◌++◌, ◌∷◌}
use Rattle.mu_model.specs.declared.reason.Reason.{Reason}
use Rattle.mu_model.specs.Points.{bounds}
use Rattle.mu_replicas.proofs.Points.{unequal_to}
use Rattle.mu_replicas.proofs.replica.Replica.why_no_read_beat.Goals as goal

pub returns : goal.returns
returns c r mine held start =
    let k = c.args.config.now in
    let few = c.requires.replicas.1 in
    let one = c.why_no_region.ensures r mine held start in
    c.needs.ensures k r mine ((bounds r mine) ++ Reason.NoRegion c.args.q ∷ []) one (λ m. unequal_to _ _ _ held.replica)
