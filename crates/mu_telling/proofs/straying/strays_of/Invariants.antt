-- The strays of the replicas before this one were added.
use Rattle.std.proofs.Common.{◌≡◌}
use Rattle.mu_model.specs.Histories.{history}
use Rattle.mu_telling.specs.Straying.{strays}
use Rattle.mu_telling.proofs.straying.strays_of.Given as goal

abbrev pub invariant-loop-replica : goal.invariant-loop-replica
invariant-loop-replica l = l.strays.items ≡ strays l.replica l.stops (history l.events)
