use Rattle.shared_replica.proofs.shared.SharedReplica.append.Given as goal

abbrev pub ghost-append : goal.ghost-append
ghost-append g a = (g.at.knows, g.at.own)
