use Rattle.std.proofs.Common.{[], ◌++◌, ◌∷◌, sym}
use Rattle.mu_model.specs.declared.reason.Reason.{Reason}
use Rattle.mu_model.specs.Points.{bounds}
use Rattle.mu_replicas.proofs.replica.Replica.why_no_ask.Goals as goal

pub returns : goal.returns
returns c r mine held start =
    let k = c.args.config.now in
    let few = c.requires.replicas.1 in
    let one = c.why_no_region.ensures r mine held start in
    rw (sym (c.asked_region-asked.ensures r mine held.leadership)) (c.needs.ensures k r mine ((bounds r mine) ++ Reason.NoRegion c.args.p ∷ []) one (λ m. c.is_next_to_ask.ensures k r mine c.asked_region-asked.result held.leadership))
