use Rattle.shared_replica.proofs.shared.SharedReplica.next_after.Given as goal

abbrev pub ghost-take_and_next : goal.ghost-take_and_next
ghost-take_and_next g a = (g.at.knows, g.at.own)
