use Rattle.mu_node.proofs.node.Node.took_led.Given as goal

abbrev pub ghost-take_led : goal.ghost-take_led
ghost-take_led g a = g.mine
