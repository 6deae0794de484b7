-- The values at the positions before this one were added.
use Rattle.std.proofs.Common.{◌++◌, ◌≡◌}
use Rattle.std.specs.List.{slice_get}
use Rattle.mu_telling.specs.Shown.{given_below, known_fact}
use Rattle.mu_telling.proofs.showing.push_known.Given as goal

abbrev pub invariant-loop-position : goal.invariant-loop-position
invariant-loop-position l =
    l.facts.items ≡ l.initial.facts.items ++ given_below l.position (λ i. known_fact l.replica i (slice_get l.values i))
