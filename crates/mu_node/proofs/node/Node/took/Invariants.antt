use Rattle.mu_node.proofs.node.Node.took.Given as goal

abbrev pub ghost-took_led : goal.ghost-took_led
ghost-took_led g a = g.mine
