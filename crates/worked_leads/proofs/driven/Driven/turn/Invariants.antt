use Rattle.mu_model.specs.Histories.{history}
use Rattle.worked_leads.proofs.driven.Driven.turn.Given as goal

abbrev pub ghost-turn_after : goal.ghost-turn_after
ghost-turn_after g a = history (g.M.Memory.events a.memory.now)
