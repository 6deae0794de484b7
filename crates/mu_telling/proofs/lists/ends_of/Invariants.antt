-- How the replicas before this one have ended is there.
use Rattle.std.proofs.Common.{List}
use Rattle.mu_model.specs.declared.event.Event.{Event}
use Rattle.mu_course.specs.Walks.{StandsForWalk}
use Rattle.mu_telling.specs.Accounts.{AreEnds}
use Rattle.mu_telling.proofs.lists.ends_of.Given as goal

abbrev pub invariant-loop-r : goal.invariant-loop-r
invariant-loop-r l =
    (past : List Event) → StandsForWalk l.config past l.walk
    → AreEnds l.config l.script past l.r l.ends.items
