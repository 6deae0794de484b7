-- What the replicas before this one have come to was added.
use Rattle.std.proofs.Common.{◌++◌, ◌≡◌}
use Rattle.mu_model.specs.Histories.{part}
use Rattle.mu_telling.specs.Held.{OfWalk}
use Rattle.mu_telling.specs.Shown.{joined_below, positions, replica_facts}
use Rattle.mu_telling.proofs.showing.push_replicas.Given as goal

abbrev pub invariant-loop-replica : goal.invariant-loop-replica
invariant-loop-replica l =
    OfWalk l.walk l.n (λ c past. l.positions ≡ positions c
    → l.facts.items ≡ l.initial.facts.items ++ joined_below l.replica (λ r. replica_facts c r (part r past)))
