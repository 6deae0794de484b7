use Rattle.mu_node.proofs.node.Node.heed.Given as goal

abbrev pub ghost-heed : goal.ghost-heed
ghost-heed g a = g.mine
