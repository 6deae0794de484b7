use Rattle.mu_library.proofs.replicas.next_after.Given as goal

abbrev pub ghost-take_and_next : goal.ghost-take_and_next
ghost-take_and_next g a = g.at
