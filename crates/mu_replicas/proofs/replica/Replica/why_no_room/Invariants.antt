use Rattle.std.proofs.Common.{[], ◌∷◌}
use Rattle.mu_model.specs.Room.{last_head}
use Rattle.mu_model.specs.declared.reason.Reason.{Reason}
use Rattle.mu_model.specs.Points.{each_below}
use Rattle.mu_replicas.specs.Finding.{GoesOn}
use Rattle.mu_replicas.proofs.replica.Replica.why_no_room.Given as goal

abbrev pub invariant-loop-q : goal.invariant-loop-q
invariant-loop-q l = GoesOn l.config l.self (λ r mine. each_below l.q (λ q. Reason.NoRoom l.i l.free q (last_head r q mine) ∷ [])) l.initial.found l.found
