use Rattle.mu_library.proofs.replicas.append_line.Given as goal

abbrev pub ghost-appended_to : goal.ghost-appended_to
ghost-appended_to g a = g.at
