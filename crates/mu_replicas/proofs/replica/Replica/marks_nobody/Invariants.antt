use Rattle.std.proofs.Common.{not}
use Rattle.mu_model.specs.Histories.{all_below}
use Rattle.mu_replicas.specs.Stands.{Tells, may_mark}
use Rattle.mu_replicas.proofs.replica.Replica.marks_nobody.Given as goal

abbrev pub invariant-loop-q : goal.invariant-loop-q
invariant-loop-q l = Tells l.config l.self (λ r mine. all_below l.q (λ w. not (may_mark l.config w l.v l.limit r mine))) l.none
