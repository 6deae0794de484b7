use Rattle.mu_node.proofs.node.Node.took_again.Given as goal

abbrev pub ghost-take : goal.ghost-take
ghost-take g a = g.mine
