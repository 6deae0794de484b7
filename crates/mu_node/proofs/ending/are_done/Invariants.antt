use Rattle.std.proofs.Common.{List, ◌≡◌, ◌==◌}
use Rattle.std.specs.Prelude.{◌||◌}
use Rattle.mu_model.specs.declared.config.Config.{Config}
use Rattle.mu_model.specs.declared.event.Event.{Event}
use Rattle.mu_model.specs.Ends.{is_at_least}
use Rattle.mu_model.specs.Histories.{all_below}
use Rattle.mu_model.specs.Scores.{is_failed}
use Rattle.mu_node.specs.Watch.{StandsForWatch}
use Rattle.mu_follow.specs.Follow.{StandsForFollow}
use Rattle.mu_follow.specs.Published.{head_heard}
use Rattle.mu_node.proofs.ending.are_done.Given as goal

abbrev pub invariant-loop-q : goal.invariant-loop-q
invariant-loop-q l =
    (c : Config) (mine : List Event) → l.n ≡ c.replicas → StandsForWatch c l.r mine l.watch → StandsForFollow c l.r mine l.follow
    → l.all ≡ all_below l.q (λ q. (q == l.r) || (is_at_least l.full (head_heard l.r q mine) || is_failed l.r q mine))
