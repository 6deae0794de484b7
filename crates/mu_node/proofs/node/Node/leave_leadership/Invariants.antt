use Rattle.mu_node.proofs.node.Node.leave_leadership.Given as goal

abbrev pub ghost-heed : goal.ghost-heed
ghost-heed g a = g.mine

abbrev pub ghost-leave : goal.ghost-leave
ghost-leave g a = g.mine
