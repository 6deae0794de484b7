-- The commits of the replicas before this one are there.
use Rattle.std.proofs.Common.{map, ◌≡◌}
use Rattle.mu_model.specs.Histories.{part}
use Rattle.mu_model.specs.Knowledge.{commits}
use Rattle.mu_knowledge.specs.Commits.{pair_of}
use Rattle.mu_telling.specs.Accounts.{each_below}
use Rattle.mu_telling.specs.Held.{OfWalk}
use Rattle.mu_telling.proofs.lists.commits_of.Given as goal

abbrev pub invariant-loop-r : goal.invariant-loop-r
invariant-loop-r l = OfWalk l.walk l.n (λ c past. map (map pair_of) l.all.items ≡ each_below l.r (λ r. commits c r (part r past)))
