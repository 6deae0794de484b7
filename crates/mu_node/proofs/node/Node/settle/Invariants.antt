use Rattle.mu_node.proofs.node.Node.settle.Given as goal

abbrev pub ghost-took_again : goal.ghost-took_again
ghost-took_again g a = g.mine

abbrev pub ghost-took : goal.ghost-took
ghost-took g a = g.mine
