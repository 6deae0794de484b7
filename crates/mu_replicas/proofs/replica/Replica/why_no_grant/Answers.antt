use Rattle.std.proofs.Common.{[], ◌++◌, ◌∷◌, ◌<◌, ◌≡◌, ℕ, Some, true, sym}
use Rattle.mu_model.specs.Serving.{is_least_waiting}
use Rattle.mu_model.specs.declared.reason.Reason.{Reason}
use Rattle.mu_model.specs.Points.{bounds}
use Rattle.mu_replicas.proofs.Points.{least_is_first, tells, waiting_is}
use Rattle.mu_replicas.proofs.replica.Replica.why_no_grant.Goals as goal

pub returns : goal.returns
returns c r mine held start =
    let k = c.args.config.now in
    let few = c.requires.replicas.1 in
    let found : (w : ℕ) → c.first_waiting-least.result ≡ Some w → (w < k.replicas) × (is_least_waiting r mine w ≡ true) = λ w is. c.first_waiting-least.ensures.found k.replicas r w mine held.grants is in
    let nobody = c.first_waiting-least.ensures.nobody k.replicas r mine held.grants in
    let one = c.why_no_region.ensures r mine held start in
    let two = c.needs.ensures k r mine ((bounds r mine) ++ Reason.NoRegion c.args.w ∷ []) one (λ m. tells _ _ (c.is_closing.ensures k.replicas r mine held.grants)) in
    let three = c.needs-2.ensures k r mine (((bounds r mine) ++ Reason.NoRegion c.args.w ∷ []) ++ Reason.NotClosing ∷ []) two (λ m. c.is_drained.ensures k r mine held) in
    rw (sym (waiting_is k.replicas r mine _ found nobody))
    (c.needs-3.ensures k r mine ((((bounds r mine) ++ Reason.NoRegion c.args.w ∷ []) ++ Reason.NotClosing ∷ []) ++ Reason.NotDrained ∷ []) three (λ m.
    let least = least_is_first k.replicas r c.args.w mine _ m.1.1.0 found nobody in
    (λ t. least.0 (c.is_least_waiting.ensures.0 t), λ h. c.is_least_waiting.ensures.1 (least.1 h))))
