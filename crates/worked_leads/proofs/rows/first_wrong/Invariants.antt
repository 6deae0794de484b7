use Rattle.std.proofs.Common.{◌≡◌}
use Rattle.mu_model.specs.Histories.{history}
use Rattle.worked_leads.specs.Driven.{Drives}
use Rattle.worked_leads.proofs.rows.first_wrong.Given as goal

abbrev pub invariant-loop-index : goal.invariant-loop-index
invariant-loop-index g l = (g.M.Memory.config l.memory ≡ l.driven.lead.config) × Drives (history (g.M.Memory.events l.memory)) l.driven
