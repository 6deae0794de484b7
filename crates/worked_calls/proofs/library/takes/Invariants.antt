-- The judge is there, and can take lines.
use Rattle.mu_library.specs.Calls.{CanTake}
use Rattle.worked_calls.proofs.library.takes.Given as goal

abbrev pub invariant-loop-line : goal.invariant-loop-line
invariant-loop-line l = CanTake l.handle.held
