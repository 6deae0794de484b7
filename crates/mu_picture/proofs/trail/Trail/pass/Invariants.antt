-- The trail has taken the events before this one.
use Rattle.std.proofs.Common.{take}
use Rattle.mu_model.specs.Histories.{history}
use Rattle.mu_picture.specs.Trails.{StandsForTrail}
use Rattle.mu_picture.proofs.trail.Trail.pass.Given as goal

abbrev pub invariant-loop-index : goal.invariant-loop-index
invariant-loop-index l = StandsForTrail l.config l.script (history (take l.index l.events)) l.self
