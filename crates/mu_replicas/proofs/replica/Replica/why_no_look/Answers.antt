use Rattle.std.proofs.Common.{[], ◌++◌, ◌∷◌, sym}
use Rattle.mu_model.specs.declared.reason.Reason.{Reason}
use Rattle.mu_model.specs.Points.{bounds}
use Rattle.mu_replicas.proofs.Points.{low}
use Rattle.mu_replicas.proofs.replica.Replica.why_no_look.Goals as goal

pub returns : goal.returns
returns c r mine held start =
    let k = c.args.config.now in
    let few = c.requires.replicas.1 in
    let one = c.why_no_region.ensures r mine held start in
    let two = c.needs.ensures k r mine ((bounds r mine) ++ Reason.NoRegion c.args.p ∷ []) one (λ m. c.is_position.ensures) in
    rw (sym c.last_position-last.ensures)
    (c.needs-2.ensures k r mine (((bounds r mine) ++ Reason.NoRegion c.args.p ∷ []) ++ Reason.NoPosition c.args.i c.last_position-last.result ∷ []) two (λ m. c.is_readable.ensures k r mine (low _ _ m.1.1.0 few) held.leadership))
