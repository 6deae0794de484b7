use Rattle.mu_library.proofs.replicas.asked_of.Given as goal

abbrev pub ghost-next : goal.ghost-next
ghost-next g a = g.at
