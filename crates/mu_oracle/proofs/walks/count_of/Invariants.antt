use Rattle.std.proofs.Common.{Bool, take, ◌≡◌, ◌≤◌}
use Rattle.mu_model.specs.Histories.{history, how_many}
use Rattle.mu_oracle.specs.Walks.{Tells}
use Rattle.mu_oracle.proofs.walks.count_of.Given as goal

abbrev pub invariant-loop-e : goal.invariant-loop-e
invariant-loop-e g l = record { so_far : Tells g.F.Fn l.test how_many (take l.e-index l.events) l.count; few : l.count ≤ l.e-index }
