use Rattle.mu_model.specs.Histories.{part}
use Rattle.worked_leads.proofs.driven.Driven.heed.Given as goal

abbrev pub ghost-heed : goal.ghost-heed
ghost-heed g a = part a.self.now.id g.past
