-- held failed in time: a replica that makes no more events is held failed by each other one after a
-- stated number of steps, and from then on.
use Rattle.std.specs.Prelude.{List, [], length, true, ℕ, ◌*◌, ◌++◌, ◌<◌, ◌≡◌, ◌≢◌, ◌≤◌}
use Rattle.mu_model.specs.declared.config.Config.{Config}
use Rattle.mu_model.specs.declared.event.Event.{Event}
use Rattle.mu_model.specs.Bounds.{cycle}
use Rattle.mu_model.specs.Diligence.{ReadsInTime}
use Rattle.mu_model.specs.Histories.{part}
use Rattle.mu_model.specs.Legal.{IsLegalHistory}
use Rattle.mu_model.specs.Scores.{is_failed}

-- the steps after the last event of another replica until a replica holds it failed: it reads its
-- count once in each round of the cycle, and a score of 15 falls by one with each read after the
-- first
abbrev pub failing_steps : Config → ℕ
failing_steps c = 15 * cycle c

-- a replica that makes no more events is held failed in time, and from then on
abbrev pub HeldFailedInTime : Type 0
HeldFailedInTime =
    (c : Config) (q r : ℕ) (newer older : List Event) → q < c.replicas → q ≢ r
    → IsLegalHistory c (newer ++ older) → part q newer ≡ []
    → ReadsInTime c r (part r (newer ++ older)) → failing_steps c ≤ length (part r newer)
    → is_failed r q (newer ++ older) ≡ true
