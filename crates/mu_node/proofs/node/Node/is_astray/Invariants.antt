use Rattle.mu_node.proofs.node.Node.is_astray.Given as goal

abbrev pub ghost-asks_again : goal.ghost-asks_again
ghost-asks_again g a = g.mine
