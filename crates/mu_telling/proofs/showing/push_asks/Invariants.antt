-- The asks of the replicas before this one were added.
use Rattle.std.proofs.Common.{◌++◌, ◌≡◌}
use Rattle.mu_model.specs.Regions.{asks}
use Rattle.mu_telling.specs.Held.{AtId}
use Rattle.mu_telling.specs.Shown.{asks_fact, given_below}
use Rattle.mu_telling.proofs.showing.push_asks.Given as goal

abbrev pub invariant-loop-by : goal.invariant-loop-by
invariant-loop-by l =
    AtId l.walk l.region (λ c past. l.n ≡ c.replicas
    → l.facts.items ≡ l.initial.facts.items ++ given_below l.by (λ w. asks_fact l.region w (asks w l.region past)))
