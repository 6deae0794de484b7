use Rattle.mu_inbox.proofs.inbox.Inbox.take_place.Given as goal

abbrev pub ghost-take_none : goal.ghost-take_none
ghost-take_none g a = g.mine

abbrev pub ghost-take_closed : goal.ghost-take_closed
ghost-take_closed g a = g.mine

abbrev pub ghost-take_row : goal.ghost-take_row
ghost-take_row g a = g.mine
