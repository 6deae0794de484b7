use Rattle.std.proofs.Common.{[], ◌<◌, ◌∷◌}
use Rattle.mu_model.specs.Contents.{row_count}
use Rattle.mu_model.specs.declared.reason.Reason.{Reason}
use Rattle.mu_model.specs.Points.{each_below}
use Rattle.mu_replicas.specs.Finding.{GoesOnIf}
use Rattle.mu_replicas.proofs.replica.Replica.why_row_not_written.Given as goal

abbrev pub invariant-loop-k : goal.invariant-loop-k
invariant-loop-k l = GoesOnIf (l.j < row_count l.config) l.config l.self (λ r mine. each_below l.k (λ k. Reason.NotWritten l.v l.j k ∷ [])) l.initial.found l.found
