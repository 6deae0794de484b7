use Rattle.std.proofs.Common.{Bool, drop, take, ◌≡◌, ◌≤◌}
use Rattle.mu_model.specs.Histories.{history, since}
use Rattle.mu_oracle.specs.Walks.{Tells}
use Rattle.mu_oracle.proofs.walks.events_since.Given as goal

abbrev pub invariant-loop-i : goal.invariant-loop-i
invariant-loop-i g l = record { within : l.from ≤ l.i; so_far : Tells g.F.Fn l.test since (take l.i l.events) (history (drop l.from (take l.i l.events))) }
