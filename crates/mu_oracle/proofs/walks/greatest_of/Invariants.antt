use Rattle.std.proofs.Common.{take, ℕ, ◌≡◌}
use Rattle.mu_model.specs.Histories.{history, greatest}
use Rattle.mu_oracle.specs.Walks.{Tells}
use Rattle.mu_oracle.proofs.walks.greatest_of.Given as goal

abbrev pub invariant-loop-e : goal.invariant-loop-e
invariant-loop-e g l = Tells g.F.Fn l.tells greatest (take l.e-index l.events) l.most
