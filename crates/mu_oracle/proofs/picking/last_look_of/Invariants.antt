use Rattle.std.proofs.Common.{◌≡◌, take}
use Rattle.mu_model.specs.Histories.{history}
use Rattle.mu_model.specs.Picks.{last_look}
use Rattle.mu_oracle.proofs.picking.last_look_of.Given as goal

abbrev pub invariant-loop-k : goal.invariant-loop-k
invariant-loop-k l = l.last ≡ last_look l.r l.p l.i (history (take l.k l.part))
