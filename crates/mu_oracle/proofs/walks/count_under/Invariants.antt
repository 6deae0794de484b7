use Rattle.std.proofs.Common.{Bool, ℕ, ◌≡◌, ◌≤◌}
use Rattle.mu_model.specs.Histories.{count_below}
use Rattle.mu_oracle.specs.Walks.{ComputesBelow}
use Rattle.mu_oracle.proofs.walks.count_under.Given as goal

abbrev pub invariant-loop-j : goal.invariant-loop-j
invariant-loop-j g l = record { so_far : (of : ℕ → Bool) → ComputesBelow l.n g.F.Fn l.test of → l.count ≡ count_below l.j of; few : l.count ≤ l.j }
