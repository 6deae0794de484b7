use Rattle.mu_library.proofs.replicas.asked_by.Given as goal

abbrev pub ghost-asked_of : goal.ghost-asked_of
ghost-asked_of g a = g.at
