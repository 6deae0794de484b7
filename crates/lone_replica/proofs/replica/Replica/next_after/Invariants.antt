use Rattle.lone_replica.proofs.replica.Replica.next_after.Given as goal

abbrev pub ghost-next : goal.ghost-next
ghost-next g a = g.at
