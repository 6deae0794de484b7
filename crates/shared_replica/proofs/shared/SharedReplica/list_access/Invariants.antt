use Rattle.shared_replica.proofs.shared.SharedReplica.list_access.Given as goal

abbrev pub ghost-next : goal.ghost-next
ghost-next g a = g.at.list
