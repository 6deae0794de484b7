use Rattle.shared_replica.proofs.shared.SharedReplica.next.Given as goal

abbrev pub ghost-next_after : goal.ghost-next_after
ghost-next_after g a = g.at

abbrev pub ghost-next : goal.ghost-next
ghost-next g a = (g.at.knows, g.at.own)

abbrev pub ghost-list_access : goal.ghost-list_access
ghost-list_access g a = g.at
