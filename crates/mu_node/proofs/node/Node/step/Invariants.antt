use Rattle.mu_node.proofs.node.Node.step.Given as goal

abbrev pub ghost-decide : goal.ghost-decide
ghost-decide g a = g.mine

abbrev pub ghost-settle : goal.ghost-settle
ghost-settle g a = g.mine
