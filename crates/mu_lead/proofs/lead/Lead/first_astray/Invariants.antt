use Rattle.std.proofs.Common.{List, false, ℕ, ◌<◌, ◌≡◌}
use Rattle.mu_model.specs.declared.event.Event.{Event}
use Rattle.mu_model.specs.Again.{is_astray}
use Rattle.mu_lead.specs.Standing.{StandsFor, TellsFailed}
use Rattle.mu_lead.proofs.lead.Lead.first_astray.Given as goal

abbrev pub invariant-loop-p : goal.invariant-loop-p
invariant-loop-p l = (mine : List Event) → StandsFor mine l.self → TellsFailed l.self.config l.self.id mine l.failed → (k : ℕ) → k < l.p → is_astray l.self.id mine k ≡ false
