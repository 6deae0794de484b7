use Rattle.mu_library.proofs.replicas.appended_to.Given as goal

abbrev pub ghost-append_words : goal.ghost-append_words
ghost-append_words g a = g.at
