use Rattle.std.proofs.Common.{List, ℕ, ◌≡◌}
use Rattle.mu_model.specs.declared.event.Event.{Event}
use Rattle.mu_model.specs.Scores.{least_below}
use Rattle.mu_detect.specs.Stands.{StandsFor}
use Rattle.mu_detect.proofs.Leaders.{may_lead}
use Rattle.mu_detect.proofs.scores.Scores.leader.Given as goal

abbrev pub invariant-loop-q : goal.invariant-loop-q
invariant-loop-q l = (n r : ℕ) (mine : List Event) → StandsFor n r mine l.self → least_below l.q (may_lead r mine) ≡ l.q
