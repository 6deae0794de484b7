use Rattle.mu_node.proofs.node.Node.add_last.Given as goal

abbrev pub ghost-add_last : goal.ghost-add_last
ghost-add_last g a = g.growth.mine
