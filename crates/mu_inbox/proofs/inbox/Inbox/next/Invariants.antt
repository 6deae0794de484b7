use Rattle.mu_inbox.proofs.inbox.Inbox.next.Given as goal

abbrev pub ghost-planned : goal.ghost-planned
ghost-planned g a = g.mine

abbrev pub ghost-access_of : goal.ghost-access_of
ghost-access_of g a = g.mine
