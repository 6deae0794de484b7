use Rattle.shared_replica.proofs.shared.SharedReplica.take_came.Given as goal

abbrev pub ghost-append : goal.ghost-append
ghost-append g a = g.at
