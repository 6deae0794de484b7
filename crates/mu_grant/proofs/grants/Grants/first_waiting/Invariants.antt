use Rattle.std.proofs.Common.{List, not, true, ℕ, ◌≡◌}
use Rattle.mu_model.specs.declared.event.Event.{Event}
use Rattle.mu_model.specs.Histories.{all_below}
use Rattle.mu_model.specs.Serving.{has_unserved_ask}
use Rattle.mu_grant.specs.Stands.{StandsFor}
use Rattle.mu_grant.proofs.grants.Grants.first_waiting.Given as goal

abbrev pub invariant-loop-w : goal.invariant-loop-w
invariant-loop-w l = (n r : ℕ) (mine : List Event) → StandsFor n r mine l.self → all_below l.w (λ w. not (has_unserved_ask r mine w)) ≡ true
