use Rattle.std.proofs.Common.{Bool, ℕ, ◌≡◌}
use Rattle.mu_model.specs.Histories.{all_below}
use Rattle.mu_oracle.specs.Walks.{ComputesBelow}
use Rattle.mu_oracle.proofs.walks.all_under.Given as goal

abbrev pub invariant-loop-j : goal.invariant-loop-j
invariant-loop-j g l = (of : ℕ → Bool) → ComputesBelow l.n g.F.Fn l.test of → l.all ≡ all_below l.j of
