use Rattle.lone_replica.proofs.replica.Replica.take_and_next.Given as goal

abbrev pub ghost-judged : goal.ghost-judged
ghost-judged g a = g.at

abbrev pub ghost-take_then_next : goal.ghost-take_then_next
ghost-take_then_next g a = g.at
