use Rattle.mu_library.proofs.replicas.take_word_and_next.Given as goal

abbrev pub ghost-asked_after : goal.ghost-asked_after
ghost-asked_after g a = g.at
