use Rattle.mu_library.proofs.replicas.taken_by.Given as goal

abbrev pub ghost-take_for : goal.ghost-take_for
ghost-take_for g a = g.at
