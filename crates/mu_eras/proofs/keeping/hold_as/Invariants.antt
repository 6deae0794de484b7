use Rattle.std.proofs.Common.{◌≡◌}
use Rattle.mu_eras.proofs.Holds.{mixed, with_holds}
use Rattle.mu_eras.proofs.keeping.hold_as.Given as goal

abbrev pub invariant-loop-r : goal.invariant-loop-r
invariant-loop-r l = l.next ≡ with_holds l.fn.next (mixed l.r l.engine.holds l.fn.next.holds)
