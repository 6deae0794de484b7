-- The failed replicas before this one were added.
use Rattle.std.proofs.Common.{◌++◌, ◌≡◌}
use Rattle.mu_model.specs.Scores.{is_failed}
use Rattle.mu_telling.specs.Held.{OfCourse}
use Rattle.mu_telling.specs.Shown.{failed_fact, given_below}
use Rattle.mu_telling.proofs.showing.push_failed.Given as goal

abbrev pub invariant-loop-other : goal.invariant-loop-other
invariant-loop-other l =
    OfCourse l.course l.replica (λ c mine. l.n ≡ c.replicas
    → l.facts.items ≡ l.initial.facts.items ++ given_below l.other (λ q. failed_fact l.replica q (is_failed l.replica q mine)))
