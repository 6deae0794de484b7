use Rattle.mu_library.proofs.replicas.asked_after.Given as goal

abbrev pub ghost-next_after : goal.ghost-next_after
ghost-next_after g a = g.at
