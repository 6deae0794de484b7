-- The trail has taken the events before this one, and the rows hold those of them that are asked for.
use Rattle.std.proofs.Common.{take}
use Rattle.mu_model.specs.Histories.{history}
use Rattle.mu_picture.specs.Rows.{AsksAlike, HoldsSteps}
use Rattle.mu_picture.specs.Trails.{StandsForTrail}
use Rattle.mu_picture.proofs.pictures.Rows.fill.Given as goal

abbrev pub invariant-loop-index : goal.invariant-loop-index
invariant-loop-index l = record {
  trail : StandsForTrail l.config l.script (history (take l.index l.events)) l.trail;
  steps : HoldsSteps l.config l.script (take l.index l.events) l.self;
  asked : AsksAlike l.initial.self l.self;
}
