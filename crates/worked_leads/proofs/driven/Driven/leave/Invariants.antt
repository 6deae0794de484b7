use Rattle.mu_model.specs.Histories.{part}
use Rattle.worked_leads.proofs.driven.Driven.leave.Given as goal

abbrev pub ghost-heed : goal.ghost-heed
ghost-heed g a = g.past

abbrev pub ghost-asks_again : goal.ghost-asks_again
ghost-asks_again g a = part a.self.now.id g.past

abbrev pub ghost-leave : goal.ghost-leave
ghost-leave g a = part a.self.now.id g.past
