use Rattle.mu_node.proofs.node.Node.plan_led.Given as goal

abbrev pub ghost-heed : goal.ghost-heed
ghost-heed g a = g.mine

abbrev pub ghost-due : goal.ghost-due
ghost-due g a = g.mine

abbrev pub ghost-idle : goal.ghost-idle
ghost-idle g a = g.mine
