use Rattle.lone_replica.proofs.replica.Replica.take_then_next.Given as goal

abbrev pub ghost-settle_then_next : goal.ghost-settle_then_next
ghost-settle_then_next g a = g.at
