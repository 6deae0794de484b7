use Rattle.std.proofs.Common.{[], ◌∷◌}
use Rattle.mu_model.specs.declared.reason.Reason.{Reason}
use Rattle.mu_model.specs.Points.{each_below}
use Rattle.mu_replicas.specs.Finding.{GoesOnIf, IsPosition}
use Rattle.mu_replicas.proofs.replica.Replica.why_past_seen.Given as goal

abbrev pub invariant-loop-p : goal.invariant-loop-p
invariant-loop-p l = GoesOnIf (IsPosition l.config l.i) l.config l.self (λ r mine. each_below l.p (λ p. Reason.PastSeen p l.i ∷ [])) l.initial.found l.found
