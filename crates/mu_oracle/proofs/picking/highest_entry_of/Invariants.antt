use Rattle.std.proofs.Common.{◌≡◌}
use Rattle.mu_model.specs.Histories.{history}
use Rattle.mu_model.specs.Picks.{highest_accepted}
use Rattle.mu_oracle.proofs.picking.highest_entry_of.Given as goal

abbrev pub invariant-loop-p : goal.invariant-loop-p
invariant-loop-p l = l.best ≡ highest_accepted l.r l.i (history l.part) l.p
