use Rattle.std.proofs.Common.{[], ◌++◌, ◌∷◌, length}
use Rattle.mu_model.specs.Knowledge.{applied}
use Rattle.mu_model.specs.declared.reason.Reason.{Reason}
use Rattle.mu_model.specs.Points.{applied_to, bounds}
use Rattle.mu_replicas.proofs.Points.{apart, tells}
use Rattle.mu_replicas.proofs.replica.Replica.why_no_raise_head.Goals as goal

pub returns : goal.returns
returns c r mine held start =
    let k = c.args.config.now in
    let h = c.args.h in
    let there = applied_to k r mine h (length (applied k r mine)) in
    let one = c.why_not_applied-found.ensures r mine (bounds r mine) held start in
    apart k r mine (bounds r mine) there (Reason.NotReached h ∷ []) _ (c.needs.ensures k r mine (bounds r mine ++ there) one (λ m. tells _ _ (c.reaches_head.ensures k r mine held.looks)))
