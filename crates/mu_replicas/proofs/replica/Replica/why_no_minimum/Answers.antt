use Rattle.std.proofs.Common.{[], ◌++◌, ◌∷◌, ◌∙◌, ap}
use Rattle.std.specs.Prelude.{is_some}
use Rattle.mu_model.specs.declared.reason.Reason.{Reason}
use Rattle.mu_model.specs.Points.{bounds}
use Rattle.mu_replicas.proofs.Points.{denies, low, tells}
use Rattle.mu_replicas.proofs.replica.Replica.why_no_minimum.Goals as goal

pub returns : goal.returns
returns c r mine held start =
    let k = c.args.config.now in
    let few = c.requires.replicas.1 in
    let one = c.why_no_region.ensures r mine held start in
    let two = c.needs.ensures k r mine ((bounds r mine) ++ Reason.NoRegion c.args.p ∷ []) one (λ m. tells _ _ (c.is_some.ensures ∙ ap is_some (c.noted_grant.ensures r mine (low _ _ m.1.1.0 few) held.leadership))) in
    c.needs-2.ensures k r mine (((bounds r mine) ++ Reason.NoRegion c.args.p ∷ []) ++ Reason.NotGranted c.args.p ∷ []) two (λ m. denies _ _ (c.is_over.ensures r mine held.leadership))
