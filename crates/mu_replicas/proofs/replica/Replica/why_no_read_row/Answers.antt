use Rattle.std.specs.Prelude.{◌%◌}
use Rattle.std.proofs.Common.{[], ◌++◌, ◌∷◌}
use Rattle.mu_model.specs.declared.reason.Reason.{Reason}
use Rattle.mu_model.specs.Points.{bounds}
use Rattle.mu_replicas.proofs.Points.{less, less_as}
use Rattle.mu_replicas.proofs.replica.Replica.why_no_read_row.Goals as goal

pub returns : goal.returns
returns c r mine held start =
    let k = c.args.config.now in
    let few = c.requires.replicas.1 in
    let one = c.needs.ensures k r mine (bounds r mine) start (λ m. less_as _ _ _ c.from.ensures) in
    let two = c.needs-2.ensures k r mine ((bounds r mine) ++ Reason.NoWriter c.args.v ∷ []) one (λ m. c.is_row.ensures) in
    c.needs-3.ensures k r mine (((bounds r mine) ++ Reason.NoWriter c.args.v ∷ []) ++ Reason.NoRow (c.args.v % 4096) ∷ []) two (λ m. less _ _)
