-- keep up, have all raised, raising steps: each replica raises its head in time and to all that it
-- may, and only one leads; a number of entries hold every command, and each replica has applied
-- them and raised its head to them; the steps of the leader until that holds, if it leads alone or
-- last.
use Rattle.std.specs.Prelude.{Bool, List, false, length, take, true, ℕ, ◌*◌, ◌++◌, ◌+◌, ◌<◌, ◌∷◌, ◌≡◌, ◌≢◌, ◌≤◌}
use Rattle.mu_model.specs.declared.config.Config.{Config}
use Rattle.mu_model.specs.declared.event.Event.{Event}
use Rattle.mu_model.specs.Bounds.{cycle}
use Rattle.mu_model.specs.Contents.{IsConfig, holds_all}
use Rattle.mu_model.specs.Diligence.{Replays, TellsHeads}
use Rattle.mu_model.specs.Histories.{has, part}
use Rattle.mu_model.specs.Knowledge.{applied}
use Rattle.mu_model.specs.Regions.{region_head}
use Rattle.mu_model.specs.Steps.{has_min, is_asking, is_min, is_named}
use Rattle.mu_agree.specs.Moments.{AtEachMoment, AtEachStep}
use Rattle.mu_alive.specs.Bringing.{joining_steps}
use Rattle.mu_alive.specs.Enough.{HasLargeRing, steps_enough}
use Rattle.mu_alive.specs.Following.{RaisesToAll, following_steps}
use Rattle.mu_alive.specs.Last.{FetchesInTime, LeadsLast, last_steps}
use Rattle.mu_alive.specs.Opens.{OpensInTime}

-- before it reads its first minimum, a asks each region
abbrev pub AsksAllFirst : Config → ℕ → List Event → Type 0
AsksAllFirst c a mine =
    (newer older : List Event) (e : Event) (p : ℕ) → mine ≡ newer ++ e ∷ older → is_min e ≡ true
    → AtEachMoment (λ now. has_min a now ≡ false) older
    → p < c.replicas → has (is_asking p) older ≡ true

-- each of these replicas raises its head in time and to all that it may, and each but a keeps a
-- replayer's paces and never names itself; a asks each region
pub record KeepUp (c : Config) (live : ℕ → Bool) (a : ℕ) (past : List Event) : Type 0 where
  pub replays : (r : ℕ) → r < c.replicas → live r ≡ true → Replays c r (part r past)
  pub heads : (r : ℕ) → r < c.replicas → live r ≡ true → TellsHeads c r (part r past)
  pub raises :
      (r : ℕ) → r < c.replicas → live r ≡ true → AtEachStep (RaisesToAll c r) (part r past)
  pub unnamed :
      (r : ℕ) → r < c.replicas → live r ≡ true → r ≢ a
      → AtEachMoment (λ now. is_named c r now ≡ false) (part r past)
  pub asked : AsksAllFirst c a (part a past)

-- `upto` entries hold every command, and each has applied them and raised its head to them
pub record HaveAllRaised (c : Config) (live : ℕ → Bool) (past : List Event) : Type 0 where
  pub upto : ℕ
  pub raised : (r : ℕ) → r < c.replicas → live r ≡ true → upto ≤ region_head r past
  pub reached : (r : ℕ) → r < c.replicas → live r ≡ true → upto ≤ length (applied c r (part r past))
  pub held :
      (r : ℕ) → r < c.replicas → live r ≡ true
      → holds_all c (take upto (applied c r (part r past))) ≡ true

-- in this many steps each region that granted to it is brought up, and each replica has applied
-- what a knew and raised its head to it
abbrev pub spreading_steps : Config → ℕ
spreading_steps c = joining_steps c + (following_steps c + 2)

-- the same if each live host has to grant to it first
abbrev pub lagging_steps : Config → ℕ
lagging_steps c = 2 * cycle c + 2 + spreading_steps c

-- before that it knows all
abbrev pub raising_steps : Config → ℕ
raising_steps c = steps_enough c + lagging_steps c

-- the steps of the last that asks, from when it began to name itself: it knows all, and brings it to
-- the others while it fetches the rows that it lacks
abbrev pub last_raising_steps : Config → ℕ → ℕ
last_raising_steps c a = last_steps c a + spreading_steps c

-- if it opens its leadership and fetches rows in time, all that keep up with it have done so then
abbrev pub LastLeadersRaiseAll : Type 0
LastLeadersRaiseAll =
    (c : Config) (live : ℕ → Bool) (a start : ℕ) (past : List Event) → IsConfig c → HasLargeRing c
    → LeadsLast c live a start past → OpensInTime c a (part a past)
    → FetchesInTime c a (part a past) → KeepUp c live a past
    → start + last_raising_steps c a ≤ length (part a past) → HaveAllRaised c live past
