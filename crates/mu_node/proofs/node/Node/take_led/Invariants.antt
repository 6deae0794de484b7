use Rattle.mu_node.proofs.node.Node.take_led.Given as goal

abbrev pub ghost-take : goal.ghost-take
ghost-take g a = g.mine
