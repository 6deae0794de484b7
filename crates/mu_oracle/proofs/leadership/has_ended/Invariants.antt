use Rattle.std.proofs.Common.{◌≡◌, take}
use Rattle.mu_model.specs.Histories.{history}
use Rattle.mu_model.specs.Leaderships.{is_over}
use Rattle.mu_oracle.proofs.leadership.has_ended.Given as goal

abbrev pub invariant-loop-i : goal.invariant-loop-i
invariant-loop-i l = l.over ≡ is_over l.r (history (take l.i l.part))
