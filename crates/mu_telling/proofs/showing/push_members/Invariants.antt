-- The members before this region were added.
use Rattle.std.proofs.Common.{◌++◌, ◌≡◌}
use Rattle.mu_model.specs.Leaderships.{is_member}
use Rattle.mu_telling.specs.Held.{OfCourse}
use Rattle.mu_telling.specs.Shown.{given_below, member_fact}
use Rattle.mu_telling.proofs.showing.push_members.Given as goal

abbrev pub invariant-loop-region : goal.invariant-loop-region
invariant-loop-region l =
    OfCourse l.course l.replica (λ c mine. l.facts.items
    ≡ l.initial.facts.items ++ given_below l.region (λ p. member_fact l.replica p (is_member l.replica p mine)))
