use Rattle.mu_inbox.proofs.inbox.Inbox.take.Given as goal

abbrev pub ghost-take_for : goal.ghost-take_for
ghost-take_for g a = g.mine
