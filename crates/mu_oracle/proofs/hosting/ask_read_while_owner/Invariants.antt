use Rattle.std.proofs.Common.{◌≡◌, take}
use Rattle.mu_model.specs.Histories.{history}
use Rattle.mu_model.specs.Serving.{served_as_owner}
use Rattle.mu_oracle.proofs.hosting.ask_read_while_owner.Given as goal

abbrev pub invariant-loop-i : goal.invariant-loop-i
invariant-loop-i l = l.served ≡ served_as_owner l.r l.w (history (take l.i l.part))
