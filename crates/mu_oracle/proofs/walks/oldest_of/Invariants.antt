use Rattle.std.proofs.Common.{take, ◌≡◌}
use Rattle.mu_model.specs.Histories.{history, oldest}
use Rattle.mu_oracle.specs.Walks.{Tells}
use Rattle.mu_oracle.proofs.walks.oldest_of.Given as goal

abbrev pub invariant-loop-e : goal.invariant-loop-e
invariant-loop-e g l = Tells g.F.Fn l.tells oldest (take l.e-index l.events) l.first
