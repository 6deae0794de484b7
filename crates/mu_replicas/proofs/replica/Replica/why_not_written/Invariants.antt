use Rattle.std.proofs.Common.{◌%◌, ◌+◌, ◌<◌}
use Rattle.mu_model.specs.Contents.{row_count}
use Rattle.mu_model.specs.Points.{each_below, row_written}
use Rattle.mu_replicas.specs.Finding.{GoesOnIf}
use Rattle.mu_replicas.proofs.replica.Replica.why_not_written.Given as goal

abbrev pub invariant-loop-t : goal.invariant-loop-t
invariant-loop-t l = GoesOnIf (l.v % 4096 < row_count l.config) l.config l.self (λ r mine. each_below l.t (λ t. row_written l.v (l.v % 4096 + t))) l.initial.found l.found
