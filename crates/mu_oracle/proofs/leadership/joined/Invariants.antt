use Rattle.std.proofs.Common.{◌≡◌, take}
use Rattle.mu_model.specs.Histories.{history}
use Rattle.mu_model.specs.Leaderships.{grant_at_joining}
use Rattle.mu_oracle.proofs.leadership.joined.Given as goal

abbrev pub invariant-loop-i : goal.invariant-loop-i
invariant-loop-i l = l.joined ≡ grant_at_joining l.r l.p (history (take l.i l.part))
