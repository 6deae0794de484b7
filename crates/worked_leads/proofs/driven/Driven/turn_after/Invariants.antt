use Rattle.worked_leads.proofs.driven.Driven.turn_after.Given as goal

abbrev pub ghost-heed : goal.ghost-heed
ghost-heed g a = g.past

abbrev pub ghost-due : goal.ghost-due
ghost-due g a = g.past

abbrev pub ghost-make : goal.ghost-make
ghost-make g a = g.past
