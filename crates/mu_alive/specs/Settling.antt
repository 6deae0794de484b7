-- hold alive, goes on, names the least: from some moment on those that go on hold the least of them
-- alive, and the others make no more events, whatever came before; then those are held failed after
-- a stated number of steps, so all that go on name the least of them and only that one asks.
use Rattle.std.specs.Prelude.{Bool, List, [], false, length, true, ℕ, ◌++◌, ◌<◌, ◌≡◌, ◌≢◌, ◌≤◌}
use Rattle.mu_model.specs.declared.config.Config.{Config}
use Rattle.mu_model.specs.declared.event.Event.{Event}
use Rattle.mu_model.specs.declared.event.Verb.{Verb}
use Rattle.mu_model.specs.Diligence.{AsksWithCauseBy, GrantsInTime, ReadsInTime}
use Rattle.mu_model.specs.Histories.{count_below, part}
use Rattle.mu_model.specs.Leaderships.{majority_of}
use Rattle.mu_model.specs.Legal.{IsLegalHistory}
use Rattle.mu_model.specs.Regions.{fence_closing}
use Rattle.mu_model.specs.Scores.{is_failed, leader}
use Rattle.mu_agree.specs.Moments.{AtEachStep}
use Rattle.mu_alive.specs.Alone.{AsksAlone}
use Rattle.mu_alive.specs.Failing.{failing_steps}

-- in the newer events no other of these replicas holds a failed once it has taken enough steps
abbrev pub HoldAlive : Config → (ℕ → Bool) → ℕ → List Event → List Event → Type 0
HoldAlive c live a newer older =
    (r : ℕ) (latest before : List Event) → r < c.replicas → a ≢ r → live r ≡ true
    → newer ≡ latest ++ before → failing_steps c ≤ length (part r before)
    → is_failed r a (before ++ older) ≡ false

-- asks are read only while the region isn't closing
abbrev pub ReadsOpen : List Event → Event → Type 0
ReadsOpen past e = (w : ℕ) → e.verb ≡ Verb.ReadAsk w → fence_closing e.by past ≡ false

-- in the newer events these replicas hold a, the least of them, alive and the others make no event;
-- they are a majority, and they kept their paces throughout, as replicas that may ask again
pub record KeepGoing (c : Config) (live : ℕ → Bool) (a : ℕ) (newer older : List Event)
    : Type 0 where
  pub inside : a < c.replicas
  pub lives : live a ≡ true
  pub least : (r : ℕ) → r < a → live r ≡ false
  pub majority : majority_of c.replicas ≤ count_below c.replicas live
  pub legal : IsLegalHistory c (newer ++ older)
  pub alive : HoldAlive c live a newer older
  pub quiet : (r : ℕ) → r < c.replicas → live r ≡ false → part r newer ≡ []
  pub reads :
      (r : ℕ) → r < c.replicas → live r ≡ true → ReadsInTime c r (part r (newer ++ older))
  pub grants :
      (r : ℕ) → r < c.replicas → live r ≡ true → GrantsInTime c r (part r (newer ++ older))
  pub causes :
      (r : ℕ) → r < c.replicas → live r ≡ true
      → AsksWithCauseBy true c r (part r (newer ++ older))
  pub resting : AtEachStep ReadsOpen (newer ++ older)

-- each that goes on has taken these steps in the newer events
abbrev pub HaveTaken : Config → (ℕ → Bool) → ℕ → List Event → Type 0
HaveTaken c live steps newer =
    (r : ℕ) → r < c.replicas → live r ≡ true → steps ≤ length (part r newer)

-- each names the least of them in time, and from then on
abbrev pub LeastIsNamed : Type 0
LeastIsNamed =
    (c : Config) (live : ℕ → Bool) (a r : ℕ) (newer older : List Event)
    → KeepGoing c live a newer older → r < c.replicas → live r ≡ true
    → failing_steps c ≤ length (part r newer) → leader c r (part r (newer ++ older)) ≡ a

-- and only that one asks then
abbrev pub OnlyLeastAsks : Type 0
OnlyLeastAsks =
    (c : Config) (live : ℕ → Bool) (a : ℕ) (later newer older : List Event)
    → KeepGoing c live a (later ++ newer) older → HaveTaken c live (failing_steps c) newer
    → AsksAlone a later
