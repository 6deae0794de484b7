use Rattle.mu_library.proofs.replicas.append_op.Given as goal

abbrev pub ghost-append : goal.ghost-append
ghost-append g a = g.at
