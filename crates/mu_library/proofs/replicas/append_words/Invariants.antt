use Rattle.mu_library.proofs.replicas.append_words.Given as goal

abbrev pub ghost-append_op : goal.ghost-append_op
ghost-append_op g a = g.at
