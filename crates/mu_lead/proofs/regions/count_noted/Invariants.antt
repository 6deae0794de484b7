use Rattle.std.proofs.Common.{List, is_some, ℕ, ◌≡◌, ◌≤◌}
use Rattle.mu_model.specs.declared.event.Event.{Event}
use Rattle.mu_model.specs.Histories.{count_below}
use Rattle.mu_model.specs.Leaderships.{noted_grant}
use Rattle.mu_leadership.specs.Leadership.{StandsForLeadership}
use Rattle.mu_lead.proofs.regions.count_noted.Given as goal

abbrev pub invariant-loop-p : goal.invariant-loop-p
invariant-loop-p l = record {
  few : l.count ≤ l.p;
  so_far : (r : ℕ) (mine : List Event) → l.n ≤ 7 → StandsForLeadership r mine l.leading → l.count ≡ count_below l.p (λ p. is_some (noted_grant r p mine));
}
