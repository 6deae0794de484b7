use Rattle.std.proofs.Common.{◌≡◌, take}
use Rattle.mu_model.specs.Histories.{history}
use Rattle.mu_model.specs.Knowledge.{is_filled}
use Rattle.mu_oracle.proofs.knowledge.is_filled_at.Given as goal

abbrev pub invariant-loop-i : goal.invariant-loop-i
invariant-loop-i l = l.filled ≡ is_filled l.config l.r l.p (history (take l.i l.part)) l.j
