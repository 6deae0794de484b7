use Rattle.std.proofs.Common.{take}
use Rattle.mu_model.specs.Histories.{history}
use Rattle.mu_regions.specs.Stands.{Stands}
use Rattle.mu_law.proofs.states.regions_after.Given as goal

abbrev pub invariant-loop-index : goal.invariant-loop-index
invariant-loop-index l = Stands l.config (history (take l.index l.events)) l.regions
