use Rattle.lone_replica.proofs.replica.Replica.grow.Given as goal

abbrev pub ghost-add_last : goal.ghost-add_last
ghost-add_last g a = g.growth
