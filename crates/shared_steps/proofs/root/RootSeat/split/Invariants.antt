use Rattle.shared_steps.proofs.root.RootSeat.split.Given as goal

abbrev pub ghosts-split : goal.ghosts-split
ghosts-split a = record { who = a.who }
