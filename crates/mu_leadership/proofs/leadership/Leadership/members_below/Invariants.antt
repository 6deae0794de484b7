use Rattle.std.proofs.Common.{List, ℕ, ◌≡◌, ◌≤◌}
use Rattle.mu_model.specs.declared.event.Event.{Event}
use Rattle.mu_model.specs.Histories.{count_below}
use Rattle.mu_model.specs.Leaderships.{is_member}
use Rattle.mu_leadership.specs.Leadership.{StandsForLeadership}
use Rattle.mu_leadership.proofs.leadership.Leadership.members_below.Given as goal

abbrev pub invariant-loop-p : goal.invariant-loop-p
invariant-loop-p l = record { so_far : (r : ℕ) (mine : List Event) → StandsForLeadership r mine l.self → l.count ≡ count_below l.p (λ q. is_member r q mine); few : l.count ≤ l.p }
