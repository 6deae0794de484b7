use Rattle.std.proofs.Common.{Bool, take, ◌≡◌, ◌≤◌}
use Rattle.mu_model.specs.Histories.{before, history}
use Rattle.mu_oracle.specs.Walks.{Tells}
use Rattle.mu_oracle.proofs.walks.events_before.Given as goal

abbrev pub invariant-loop-i : goal.invariant-loop-i
invariant-loop-i g l = record { within : l.end ≤ l.i; so_far : Tells g.F.Fn l.test before (take l.i l.events) (history (take l.end l.events)) }
