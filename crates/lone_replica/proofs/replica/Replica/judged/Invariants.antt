use Rattle.lone_replica.proofs.replica.Replica.judged.Given as goal

abbrev pub ghost-may_find : goal.ghost-may_find
ghost-may_find g a = g.at
