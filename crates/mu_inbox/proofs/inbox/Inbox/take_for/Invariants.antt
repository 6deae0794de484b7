use Rattle.mu_inbox.proofs.inbox.Inbox.take_for.Given as goal

abbrev pub ghost-take_read : goal.ghost-take_read
ghost-take_read g a = g.mine

abbrev pub ghost-take_written : goal.ghost-take_written
ghost-take_written g a = g.mine

abbrev pub ghost-take_place : goal.ghost-take_place
ghost-take_place g a = g.mine

abbrev pub ghost-take_put : goal.ghost-take_put
ghost-take_put g a = g.mine

abbrev pub ghost-take_closed : goal.ghost-take_closed
ghost-take_closed g a = g.mine
