use Rattle.mu_node.proofs.node.Node.asks_out_of_turn.Given as goal

abbrev pub ghost-is_astray : goal.ghost-is_astray
ghost-is_astray g a = g.mine
