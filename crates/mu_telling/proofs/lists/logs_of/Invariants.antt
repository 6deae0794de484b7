-- The logs of the replicas before this one are there.
use Rattle.std.proofs.Common.{◌≡◌}
use Rattle.mu_model.specs.Histories.{part}
use Rattle.mu_model.specs.Knowledge.{applied}
use Rattle.mu_telling.specs.Accounts.{each_below}
use Rattle.mu_telling.specs.Held.{OfWalk}
use Rattle.mu_telling.proofs.lists.logs_of.Given as goal

abbrev pub invariant-loop-r : goal.invariant-loop-r
invariant-loop-r l = OfWalk l.walk l.n (λ c past. l.logs.items ≡ each_below l.r (λ r. applied c r (part r past)))
