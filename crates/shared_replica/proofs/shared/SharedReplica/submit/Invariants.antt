use Rattle.shared_replica.proofs.shared.SharedReplica.submit.Given as goal

abbrev pub ghost-offer : goal.ghost-offer
ghost-offer g a = g.at.list
