use Rattle.std.proofs.Common.{Bool, take, ◌≡◌}
use Rattle.mu_model.specs.Histories.{history, has}
use Rattle.mu_oracle.specs.Walks.{Tells}
use Rattle.mu_oracle.proofs.walks.some_event.Given as goal

abbrev pub invariant-loop-e : goal.invariant-loop-e
invariant-loop-e g l = Tells g.F.Fn l.test has (take l.e-index l.events) l.found
