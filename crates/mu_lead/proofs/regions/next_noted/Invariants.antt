use Rattle.std.proofs.Common.{List, false, is_some, ℕ, ◌<◌, ◌≡◌, ◌≤◌}
use Rattle.mu_model.specs.declared.event.Event.{Event}
use Rattle.mu_model.specs.Leaderships.{noted_grant}
use Rattle.mu_leadership.specs.Leadership.{StandsForLeadership}
use Rattle.mu_lead.proofs.regions.next_noted.Given as goal

abbrev pub invariant-loop-p : goal.invariant-loop-p
invariant-loop-p l = (r : ℕ) (mine : List Event) → l.n ≤ 7 → StandsForLeadership r mine l.leading → (k : ℕ) → l.from ≤ k → k < l.p → is_some (noted_grant r k mine) ≡ false
