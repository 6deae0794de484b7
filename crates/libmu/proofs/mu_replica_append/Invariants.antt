use Rattle.libmu.proofs.mu_replica_append.Given as goal

abbrev pub ghost-append_line : goal.ghost-append_line
ghost-append_line g a = g.at
