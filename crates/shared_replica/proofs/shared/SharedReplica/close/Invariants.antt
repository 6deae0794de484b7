use Rattle.shared_replica.proofs.shared.SharedReplica.close.Given as goal

abbrev pub ghost-close : goal.ghost-close
ghost-close g a = g.at.list
