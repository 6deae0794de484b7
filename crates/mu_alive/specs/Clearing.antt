-- is served, clearing steps: a host has seen all asks of a replica and served them; the steps after
-- which it has served those of every replica but the one that goes on asking. From then on it
-- closes its region only to grant it to that one, and keeps it open once it has.
use Rattle.std.specs.Prelude.{Bool, List, Some, false, length, true, ℕ, ◌*◌, ◌++◌, ◌+◌, ◌<◌, ◌∷◌, ◌≡◌, ◌≢◌, ◌≤◌}
use Rattle.mu_model.specs.declared.config.Config.{Config}
use Rattle.mu_model.specs.declared.event.Event.{Event}
use Rattle.mu_model.specs.declared.event.Verb.{Verb}
use Rattle.mu_model.specs.Bounds.{cycle}
use Rattle.mu_model.specs.Histories.{part}
use Rattle.mu_model.specs.Regions.{asks, fence_closing, fence_grant, fence_owner}
use Rattle.mu_model.specs.Serving.{seen_asks, served}
use Rattle.mu_alive.specs.Failing.{failing_steps}
use Rattle.mu_alive.specs.Settling.{KeepGoing, HaveTaken}

-- p has seen each ask of w for its region, and served it
pub record IsServed (p w : ℕ) (past : List Event) : Type 0 where
  pub seen : seen_asks p w past ≡ asks w p past
  pub served : seen_asks p w past ≤ served p w past

-- a round to see the asks, and two for each of two grants to each replica and for two more
abbrev pub clearing_steps : Config → ℕ
clearing_steps c = (4 * c.replicas + 5) * cycle c

-- the events from which only a asks, those in which p clears, and the ones before
pub record Clears (c : Config) (live : ℕ → Bool) (a p : ℕ) (later newer older : List Event)
    : Type 0 where
  pub on : KeepGoing c live a (later ++ newer) older
  pub taken : HaveTaken c live (failing_steps c) newer
  pub inside : p < c.replicas
  pub lives : live p ≡ true
  pub cleared : clearing_steps c ≤ length (part p later)

-- so many steps after only a asks, a host that goes on has served the asks of all others
abbrev pub OldAsksAreServed : Type 0
OldAsksAreServed =
    (c : Config) (live : ℕ → Bool) (a p w : ℕ) (later newer older : List Event)
    → Clears c live a p later newer older → w < c.replicas → w ≢ a
    → IsServed p w (later ++ (newer ++ older))

-- then a region that a owns is open, and stays with it under the same grant
abbrev pub LeastKeepsRegions : Type 0
LeastKeepsRegions =
    (c : Config) (live : ℕ → Bool) (a p : ℕ) (latest later newer older : List Event)
    → KeepGoing c live a (latest ++ (later ++ newer)) older → Clears c live a p later newer older
    → fence_owner p (later ++ (newer ++ older)) ≡ Some a
    → (fence_owner p (latest ++ (later ++ (newer ++ older))) ≡ Some a)
    × (fence_grant p (latest ++ (later ++ (newer ++ older)))
    ≡ fence_grant p (later ++ (newer ++ older)))
    × (fence_closing p (latest ++ (later ++ (newer ++ older))) ≡ false)

-- and a region that a asks for is its own two rounds later
abbrev pub LeastIsGranted : Type 0
LeastIsGranted =
    (c : Config) (live : ℕ → Bool) (a p : ℕ) (latest later newer older : List Event) (e : Event)
    → KeepGoing c live a (latest ++ (e ∷ (later ++ newer))) older
    → Clears c live a p later newer older → e.by ≡ a → e.verb ≡ Verb.Ask p
    → 2 * cycle c ≤ length (part p latest)
    → fence_owner p (latest ++ (e ∷ (later ++ (newer ++ older)))) ≡ Some a
