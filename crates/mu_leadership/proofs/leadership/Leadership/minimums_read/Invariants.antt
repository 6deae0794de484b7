use Rattle.std.proofs.Common.{List, ℕ, ◌≡◌, ◌≤◌}
use Rattle.mu_model.specs.declared.event.Event.{Event}
use Rattle.mu_model.specs.Histories.{count_below}
use Rattle.mu_model.specs.Entering.{has_read_min}
use Rattle.mu_leadership.specs.Leadership.{StandsForLeadership}
use Rattle.mu_leadership.proofs.leadership.Leadership.minimums_read.Given as goal

abbrev pub invariant-loop-p : goal.invariant-loop-p
invariant-loop-p l = record { so_far : (r : ℕ) (mine : List Event) → StandsForLeadership r mine l.self → l.count ≡ count_below l.p (λ q. has_read_min r q mine); few : l.count ≤ l.p }
