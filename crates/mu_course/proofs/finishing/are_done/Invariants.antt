-- The replicas before this one are done or aren't.
use Rattle.std.proofs.Common.{List, ◌≡◌, ◌==◌}
use Rattle.std.specs.Prelude.{◌||◌}
use Rattle.mu_model.specs.declared.config.Config.{Config}
use Rattle.mu_model.specs.declared.event.Event.{Event}
use Rattle.mu_model.specs.Ends.{is_at_least}
use Rattle.mu_model.specs.Histories.{all_below}
use Rattle.mu_model.specs.Scores.{is_failed}
use Rattle.mu_detect.specs.Stands.{StandsFor}
use Rattle.mu_follow.specs.Published.{HoldsPublished, head_heard}
use Rattle.mu_course.proofs.finishing.are_done.Given as goal

abbrev pub invariant-loop-q : goal.invariant-loop-q
invariant-loop-q l =
    (c : Config) (mine : List Event) → l.n ≡ c.replicas → StandsFor c.replicas l.r mine l.scores → HoldsPublished l.r mine l.heads
    → l.all ≡ all_below l.q (λ q. (q == l.r) || (is_at_least l.full (head_heard l.r q mine) || is_failed l.r q mine))
