use Rattle.lone_replica.proofs.replica.Replica.next.Given as goal

abbrev pub ghost-decide : goal.ghost-decide
ghost-decide g a = g.at
