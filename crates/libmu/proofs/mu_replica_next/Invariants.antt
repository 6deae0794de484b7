use Rattle.libmu.proofs.mu_replica_next.Given as goal

abbrev pub ghost-next_access : goal.ghost-next_access
ghost-next_access g a = g.at
