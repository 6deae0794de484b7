use Rattle.mu_model.specs.Histories.{part}
use Rattle.worked_leads.proofs.driven.Driven.due.Given as goal

abbrev pub ghost-due : goal.ghost-due
ghost-due g a = part a.self.now.id g.past
