use Rattle.mu_inbox.proofs.inbox.Inbox.planned_at_place.Given as goal

abbrev pub ghost-planned_of_offer : goal.ghost-planned_of_offer
ghost-planned_of_offer g a = g.mine
