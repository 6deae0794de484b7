use Rattle.std.proofs.Common.{◌≡◌, take}
use Rattle.mu_model.specs.Histories.{history}
use Rattle.mu_model.specs.Room.{is_mark_candidate}
use Rattle.mu_oracle.proofs.room.is_candidate.Given as goal

abbrev pub invariant-loop-i : goal.invariant-loop-i
invariant-loop-i l = l.stuck ≡ is_mark_candidate l.config l.r l.q l.limit (history (take l.i l.part))
