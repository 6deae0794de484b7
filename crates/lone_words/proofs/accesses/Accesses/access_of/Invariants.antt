use Rattle.lone_words.proofs.accesses.Accesses.access_of.Given as goal

abbrev pub ghost-access_for : goal.ghost-access_for
ghost-access_for g a = g.at
