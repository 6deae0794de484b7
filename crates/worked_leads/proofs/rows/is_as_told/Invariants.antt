use Rattle.mu_model.specs.Histories.{history}
use Rattle.worked_leads.proofs.rows.is_as_told.Given as goal

abbrev pub ghost-leave : goal.ghost-leave
ghost-leave g a = history (g.M.Memory.events a.memory.now)
