use Rattle.lone_replica.proofs.replica.Replica.settle.Given as goal

abbrev pub ghost-take : goal.ghost-take
ghost-take g a = g.at

abbrev pub ghost-settle : goal.ghost-settle
ghost-settle g a = g.at.1.0
