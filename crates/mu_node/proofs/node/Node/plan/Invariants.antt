use Rattle.mu_node.proofs.node.Node.plan.Given as goal

abbrev pub ghost-plan_led : goal.ghost-plan_led
ghost-plan_led g a = g.mine

abbrev pub ghost-plan_cycle : goal.ghost-plan_cycle
ghost-plan_cycle g a = g.mine
