use Rattle.mu_library.proofs.replicas.take_word.Given as goal

abbrev pub ghost-taken_by : goal.ghost-taken_by
ghost-taken_by g a = g.at
