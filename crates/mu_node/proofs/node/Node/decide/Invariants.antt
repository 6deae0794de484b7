use Rattle.mu_node.proofs.node.Node.decide.Given as goal

abbrev pub ghost-asks_out_of_turn : goal.ghost-asks_out_of_turn
ghost-asks_out_of_turn g a = g.mine

abbrev pub ghost-leave_leadership : goal.ghost-leave_leadership
ghost-leave_leadership g a = g.mine

abbrev pub ghost-plan : goal.ghost-plan
ghost-plan g a = g.mine
