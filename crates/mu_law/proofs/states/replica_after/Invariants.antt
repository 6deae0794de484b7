use Rattle.std.proofs.Common.{take}
use Rattle.mu_model.specs.Histories.{history, part}
use Rattle.mu_replicas.specs.Stands.{StandsForReplica}
use Rattle.mu_law.proofs.states.replica_after.Given as goal

abbrev pub invariant-loop-index : goal.invariant-loop-index
invariant-loop-index l = StandsForReplica l.config l.r (part l.r (history (take l.index l.events))) l.state
