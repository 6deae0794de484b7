use Rattle.worked_leads.proofs.driven.Driven.make.Given as goal

abbrev pub ghost-take_put : goal.ghost-take_put
ghost-take_put g a = g.past

abbrev pub ghost-take_other : goal.ghost-take_other
ghost-take_other g a = g.past
