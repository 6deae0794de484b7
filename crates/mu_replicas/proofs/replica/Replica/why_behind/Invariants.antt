use Rattle.std.proofs.Common.{[], ◌++◌, ◌∷◌, ℕ, List}
use Rattle.mu_model.specs.declared.event.Event.{Event}
use Rattle.mu_model.specs.Parts.{IsPossible}
use Rattle.mu_model.specs.declared.reason.Reason.{Reason}
use Rattle.mu_model.specs.Points.{each_below}
use Rattle.mu_model.specs.Reasons.{Finds}
use Rattle.mu_replicas.specs.Stands.{StandsForReplica}
use Rattle.mu_replicas.proofs.replica.Replica.why_behind.Given as goal

abbrev pub invariant-loop-j : goal.invariant-loop-j
invariant-loop-j l = (r : ℕ) (mine : List Event) (reasons : List Reason) → IsPossible l.config r mine → StandsForReplica l.config r mine l.self → Finds l.config r mine reasons l.initial.found.reason → Finds l.config r mine (reasons ++ each_below l.j (λ j. Reason.Behind l.p j ∷ [])) l.found.reason
