use Rattle.mu_model.specs.Points.{bounds}
use Rattle.mu_replicas.proofs.Points.{less}
use Rattle.mu_replicas.proofs.replica.Replica.why_no_region.Goals as goal

pub returns : goal.returns
returns c r mine held start =
    let k = c.args.config.now in
    let few = c.requires.replicas.1 in
    c.needs.ensures k r mine (bounds r mine) start (λ m. less _ _)
