use Rattle.lone_replica.proofs.replica.Replica.take.Given as goal

abbrev pub ghost-judged : goal.ghost-judged
ghost-judged g a = g.at

abbrev pub ghost-take_judged : goal.ghost-take_judged
ghost-take_judged g a = g.at
