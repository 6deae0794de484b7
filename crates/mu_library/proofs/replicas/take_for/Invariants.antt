use Rattle.mu_library.proofs.replicas.take_for.Given as goal

abbrev pub ghost-take : goal.ghost-take
ghost-take g a = g.at
