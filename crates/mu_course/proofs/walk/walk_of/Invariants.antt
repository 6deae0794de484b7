-- The walk has taken the events before this one.
use Rattle.std.proofs.Common.{take}
use Rattle.mu_model.specs.Histories.{history}
use Rattle.mu_course.specs.Walks.{StandsForWalk}
use Rattle.mu_course.proofs.walk.walk_of.Given as goal

abbrev pub invariant-loop-index : goal.invariant-loop-index
invariant-loop-index l = StandsForWalk l.config (history (take l.index l.events)) l.walk
