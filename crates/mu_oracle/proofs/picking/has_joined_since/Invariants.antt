use Rattle.std.proofs.Common.{◌≡◌, take}
use Rattle.mu_model.specs.Histories.{history}
use Rattle.mu_model.specs.Picks.{joined_since_first_put}
use Rattle.mu_oracle.proofs.picking.has_joined_since.Given as goal

abbrev pub invariant-loop-k : goal.invariant-loop-k
invariant-loop-k l = l.since ≡ joined_since_first_put l.r l.i (history (take l.k l.part))
