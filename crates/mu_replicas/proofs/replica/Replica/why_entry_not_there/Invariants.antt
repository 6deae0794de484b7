use Rattle.std.proofs.Common.{◌+◌}
use Rattle.mu_model.specs.Points.{each_below, row_there}
use Rattle.mu_replicas.specs.Finding.{GoesOn}
use Rattle.mu_replicas.proofs.replica.Replica.why_entry_not_there.Given as goal

abbrev pub invariant-loop-t : goal.invariant-loop-t
invariant-loop-t l = GoesOn l.config l.self (λ r mine. each_below l.t (λ t. row_there l.h l.applied (l.v + t))) l.initial.found l.found
