use Rattle.lone_replica.proofs.replica.Replica.take_judged.Given as goal

abbrev pub ghost-settle : goal.ghost-settle
ghost-settle g a = g.at
