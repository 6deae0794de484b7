use Rattle.libmu.proofs.mu_replica_take.Given as goal

abbrev pub ghost-take_word : goal.ghost-take_word
ghost-take_word g a = g.at
