use Rattle.libmu.proofs.mu_replica_take_next.Given as goal

abbrev pub ghost-take_word_and_next : goal.ghost-take_word_and_next
ghost-take_word_and_next g a = g.at
