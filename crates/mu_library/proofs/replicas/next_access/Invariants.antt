use Rattle.mu_library.proofs.replicas.next_access.Given as goal

abbrev pub ghost-asked_by : goal.ghost-asked_by
ghost-asked_by g a = g.at
