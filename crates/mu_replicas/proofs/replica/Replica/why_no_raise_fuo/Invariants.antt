use Rattle.std.proofs.Common.{[], ◌++◌, ◌∷◌, ℕ, List, length}
use Rattle.mu_model.specs.declared.event.Event.{Event}
use Rattle.mu_model.specs.Knowledge.{known}
use Rattle.mu_model.specs.Parts.{IsPossible}
use Rattle.mu_model.specs.declared.reason.Reason.{Reason}
use Rattle.mu_model.specs.Points.{bounds, each_below}
use Rattle.mu_model.specs.Reasons.{Finds}
use Rattle.mu_replicas.specs.Stands.{StandsForReplica}
use Rattle.mu_replicas.proofs.replica.Replica.why_no_raise_fuo.Given as goal

abbrev pub invariant-loop-j : goal.invariant-loop-j
invariant-loop-j l = (r : ℕ) (mine : List Event) → IsPossible l.config r mine → StandsForReplica l.config r mine l.self → Finds l.config r mine (bounds r mine) l.fn.found.reason → Finds l.config r mine ((bounds r mine ++ Reason.NoRegion l.p ∷ Reason.NotKnown l.u (length (known l.config r mine)) ∷ []) ++ each_below l.j (λ j. Reason.NotFilled l.p j ∷ [])) l.found.reason
