-- keeps all: what each machine of a node keeps, and that the whole journal keeps it.
use Rattle.std.specs.Prelude.{Bool, List, false, ℕ, ◌*◌, ◌-◌, ◌<◌, ◌∷◌, ◌≢◌}
use Rattle.mu_model.specs.declared.config.Config.{Config}
use Rattle.mu_model.specs.declared.event.Event.{Event}
use Rattle.mu_model.specs.Bounds.{cycle}
use Rattle.mu_model.specs.Diligence.{GrantsInTime}
use Rattle.mu_model.specs.Steps.{is_ask_read, is_beat, is_beat_read, is_head_of}
use Rattle.mu_pace.specs.Counters.{IsInTime}
use Rattle.mu_pace.specs.Keeping.{AsksLately, ConfirmsInTime, HasCauseBy, KeepsPaceBy, ReplaysInTime}
use Rattle.mu_pace.specs.Placed.{AreInTime}
use Rattle.mu_pace.specs.Rounds.{IsMadeAt, IsMadeOnlyAt}
use Rattle.mu_pace.specs.Watches.{explaining, joining, raising, raising_head}

-- the reads of the cycle stand at places of their own: a beat, the others' beats and all asks in
-- each round, and each other head once in as many rounds as there are others
pub record KeepsRounds (c : Config) (r : ℕ) (now : List Event) : Type 0 where
  pub beat : (k : ℕ) × ((k < cycle c) × IsMadeAt (cycle c) k is_beat now)
  pub beats :
      (q : ℕ) → q < c.replicas → q ≢ r
      → (k : ℕ) × ((k < cycle c) × IsMadeAt (cycle c) k (is_beat_read q) now)
  pub apart : (q : ℕ) → (k : ℕ) × IsMadeOnlyAt (cycle c) k (is_beat_read q) now
  pub asks :
      (w : ℕ) → w < c.replicas
      → (k : ℕ) × ((k < cycle c) × IsMadeAt (cycle c) k (is_ask_read w) now)
  pub heads :
      (q : ℕ) → q < c.replicas → q ≢ r
      → (k : ℕ)
      × ((k < (c.replicas - 1) * cycle c)
      × IsMadeAt ((c.replicas - 1) * cycle c) k (is_head_of q) now)

-- what the leader keeps with the event; `again` tells whether it may ask again for a region that has
-- gone astray
pub record LeaderKeepsBy (again : Bool) (c : Config) (r : ℕ) (past : List Event) (e : Event)
    : Type 0 where
  pub asks : AsksLately c r past e
  pub cause : HasCauseBy again c r past e
  pub confirmation : ConfirmsInTime c r past e
  pub places : AreInTime c r (e ∷ past)
  pub evidence : (p : ℕ) → IsInTime (explaining c r p) (e ∷ past)
  pub raises : (p : ℕ) → p < c.replicas → IsInTime (raising c r p) (e ∷ past)
  pub joins : (p : ℕ) → p < c.replicas → IsInTime (joining c r p) (e ∷ past)

-- the same of a leader that never does
abbrev pub LeaderKeeps : Config → ℕ → List Event → Event → Type 0
LeaderKeeps c r past e = LeaderKeepsBy false c r past e

-- what the replayer keeps with it
pub record ReplayerKeeps (c : Config) (r : ℕ) (past : List Event) (e : Event) : Type 0 where
  pub replays : ReplaysInTime c r past e
  pub head : IsInTime (raising_head c r) (e ∷ past)

-- what the host, the cycle, the leader and the replayer keep is every pace
abbrev pub PartsKeepPace : Type 0
PartsKeepPace =
    (again : Bool) (c : Config) (r : ℕ) (past : List Event) (e : Event)
    → KeepsRounds c r (e ∷ past) → GrantsInTime c r (e ∷ past)
    → LeaderKeepsBy again c r past e → ReplayerKeeps c r past e → KeepsPaceBy again c r past e
