use Rattle.shared_steps.proofs.seat.PortSeat.step.Given as goal

abbrev pub ghosts-make : goal.ghosts-make
ghosts-make a = record { verb = a.verb }
