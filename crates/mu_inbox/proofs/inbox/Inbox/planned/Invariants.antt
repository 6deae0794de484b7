use Rattle.mu_inbox.proofs.inbox.Inbox.planned.Given as goal

abbrev pub ghost-planned_at_place : goal.ghost-planned_at_place
ghost-planned_at_place g a = g.mine
