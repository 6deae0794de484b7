-- recent, spaced: the paces at each moment, as a machine keeps them: few events came since the last
-- that counts. They give the paces by stretches.
use Rattle.std.specs.Prelude.{Bool, List, [], if◌then◌else◌, length, not, true, ℕ, ◌&&◌, ◌*◌, ◌+◌, ◌<◌, ◌||◌, ◌∷◌, ◌≡◌, ◌≢◌, ◌≤◌}
use Rattle.mu_model.specs.declared.config.Config.{Config}
use Rattle.mu_model.specs.declared.event.Event.{Event}
use Rattle.mu_model.specs.Bounds.{cycle}
use Rattle.mu_model.specs.Diligence.{AsksInTime, ReadsInTime, has_to_ask}
use Rattle.mu_model.specs.Histories.{has, since}
use Rattle.mu_model.specs.Steps.{is_ask_read, is_asking, is_beat, is_beat_read, is_fencing}
use Rattle.mu_model.specs.Stretches.{is_replication}

-- at each moment fewer than k events came since the last that passes
abbrev pub IsRecent : (Event → Bool) → ℕ → List Event → Type 0
IsRecent test k [] = Unit {0}
IsRecent test k (e ∷ past) = IsRecent test k past × (length (since test (e ∷ past)) < k)

-- beats and asks were read recently at each moment
pub record ReadsRecently (c : Config) (r : ℕ) (past : List Event) : Type 0 where
  pub beat : IsRecent is_beat (cycle c) past
  pub beats : (q : ℕ) → q < c.replicas → q ≢ r → IsRecent (is_beat_read q) (cycle c) past
  pub asks : (w : ℕ) → w < c.replicas → IsRecent (is_ask_read w) (cycle c) past

-- before each event that passes, at least k events came since the last one that passes, if there is
-- one
abbrev pub IsSpaced : (Event → Bool) → ℕ → List Event → Type 0
IsSpaced test k [] = Unit {0}
IsSpaced test k (e ∷ past) =
    IsSpaced test k past × (test e ≡ true → has test past ≡ true → k ≤ length (since test past))

-- how many replication events came since something held after a step, or since the history began
abbrev pub steps_since : (List Event → Event → Bool) → List Event → ℕ
steps_since held [] = 0
steps_since held (e ∷ past) =
    if held past e then 0
    else (if is_replication past e then steps_since held past + 1 else steps_since held past)

-- at each moment fewer than k replication events came since the last step that passes
abbrev pub IsRecentStep : (List Event → Event → Bool) → ℕ → List Event → Type 0
IsRecentStep held k [] = Unit {0}
IsRecentStep held k (e ∷ past) = IsRecentStep held k past × (steps_since held (e ∷ past) < k)

-- the step is one that a named replica with something to do has to make, or it has nothing to do
abbrev pub asks_or_rests : Config → ℕ → (Event → Bool) → List Event → Event → Bool
asks_or_rests c r test past e = is_replication past e && (test e || not (has_to_ask c r past))

-- asks and fences were made recently at each moment
pub record AsksRecently (c : Config) (r : ℕ) (past : List Event) : Type 0 where
  pub asks :
      (p : ℕ) → p < c.replicas
      → IsRecentStep (asks_or_rests c r (is_asking p)) (17 * c.replicas + 1) past
  pub fences :
      (p : ℕ) → p < c.replicas
      → IsRecentStep (asks_or_rests c r (is_fencing p)) (17 * c.replicas + 1) past

-- a replica that has read recently at each moment, and no beat twice in a round, reads in time in
-- each stretch
abbrev pub RecentReadsAreInTime : Type 0
RecentReadsAreInTime =
    (c : Config) (r : ℕ) (past : List Event) → ReadsRecently c r past
    → ((q : ℕ) → IsSpaced (is_beat_read q) (4 * c.replicas + 43) past) → ReadsInTime c r past

-- a replica that has asked recently at each moment asks in time in each stretch
abbrev pub RecentAsksAreInTime : Type 0
RecentAsksAreInTime =
    (c : Config) (r : ℕ) (past : List Event) → AsksRecently c r past → AsksInTime c r past
