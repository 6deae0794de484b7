use Rattle.mu_model.specs.Histories.{part}
use Rattle.worked_leads.proofs.driven.Driven.take_other.Given as goal

abbrev pub ghost-take : goal.ghost-take
ghost-take g a = part a.self.now.id g.past
