use Rattle.std.proofs.Common.{◌≡◌, map}
use Rattle.mu_engine.specs.Live.{after_round}
use Rattle.mu_eras.proofs.Holds.{mixed, with_holds}
use Rattle.mu_eras.proofs.keeping.let_pass.Given as goal

abbrev pub invariant-loop-r : goal.invariant-loop-r
invariant-loop-r l = l.engine ≡ with_holds l.fn.engine (mixed l.r (map after_round l.fn.engine.holds) l.fn.engine.holds)
