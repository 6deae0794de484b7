use Rattle.mu_node.proofs.node.Node.turn_on.Given as goal

abbrev pub ghost-step : goal.ghost-step
ghost-step g a = g.P.Port.part a.port.now
