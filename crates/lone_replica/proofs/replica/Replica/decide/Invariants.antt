use Rattle.lone_replica.proofs.replica.Replica.decide.Given as goal

abbrev pub ghost-decide : goal.ghost-decide
ghost-decide g a = g.at.1.0

abbrev pub ghost-access_of : goal.ghost-access_of
ghost-access_of g a = g.at
