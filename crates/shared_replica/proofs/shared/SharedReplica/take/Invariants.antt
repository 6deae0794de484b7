use Rattle.shared_replica.proofs.shared.SharedReplica.take.Given as goal

abbrev pub ghost-take : goal.ghost-take
ghost-take g a = g.at.list

abbrev pub ghost-take_came : goal.ghost-take_came
ghost-take_came g a = g.at
