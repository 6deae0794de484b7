-- keeps pace, diligent at each moment: what one event has to keep, with a field for each pace; and
-- that each event of a journal does.
use Rattle.std.specs.Prelude.{Bool, List, None, [], false, length, true, ℕ, ◌*◌, ◌+◌, ◌<◌, ◌∷◌, ◌≡◌, ◌≢◌, ◌≤◌}
use Rattle.mu_agree.specs.Paces.{asks_or_rests, steps_since}
use Rattle.mu_model.specs.declared.config.Config.{Config}
use Rattle.mu_model.specs.declared.event.Event.{Event}
use Rattle.mu_model.specs.Bounds.{cycle}
use Rattle.mu_model.specs.Diligence.{may_begin}
use Rattle.mu_model.specs.Histories.{has, since}
use Rattle.mu_model.specs.Leaderships.{begins_leadership}
use Rattle.mu_model.specs.Steps.{is_ask_read, is_asking, is_beat, is_beat_read, is_fencing, is_head_of, is_named}
use Rattle.mu_pace.specs.Counters.{IsInTime, steps_left}
use Rattle.mu_pace.specs.Watches.{asking_after, bringing_up, confirming, explaining, granting, joining, progressing, raising, raising_head, reading_own, replaying}

-- fewer than k events came since the last that passes
abbrev pub CameLately : (Event → Bool) → ℕ → List Event → Type 0
CameLately test k now = length (since test now) < k

-- heartbeat pace: beats and asks were read lately, and the beat that is read wasn't read in this
-- round
pub record ReadsLately (c : Config) (r : ℕ) (past : List Event) (e : Event) : Type 0 where
  pub beat : CameLately is_beat (cycle c) (e ∷ past)
  pub beats : (q : ℕ) → q < c.replicas → q ≢ r → CameLately (is_beat_read q) (cycle c) (e ∷ past)
  pub asks : (w : ℕ) → w < c.replicas → CameLately (is_ask_read w) (cycle c) (e ∷ past)
  pub apart :
      (q : ℕ) → is_beat_read q e ≡ true → has (is_beat_read q) past ≡ true
      → 4 * c.replicas + 43 ≤ length (since (is_beat_read q) past)

-- election pace: a replica that has to ask asked each region and read each fence lately
pub record AsksLately (c : Config) (r : ℕ) (past : List Event) (e : Event) : Type 0 where
  pub asks :
      (p : ℕ) → p < c.replicas
      → steps_since (asks_or_rests c r (is_asking p)) (e ∷ past) < 17 * c.replicas + 1
  pub fences :
      (p : ℕ) → p < c.replicas
      → steps_since (asks_or_rests c r (is_fencing p)) (e ∷ past) < 17 * c.replicas + 1

-- ask discipline: r asks only if it is named, and asks anew only with cause; a region that has gone
-- astray is one only if `again` holds
pub record HasCauseBy (again : Bool) (c : Config) (r : ℕ) (past : List Event) (e : Event) : Type 0
  where
    pub named : (p : ℕ) → is_asking p e ≡ true → is_named c r past ≡ true
    pub anew : is_asking 0 e ≡ true → may_begin again c r past ≡ true

-- the same of a replica that never asks again for a region that has gone astray
abbrev pub HasCause : Config → ℕ → List Event → Event → Type 0
HasCause c r past e = HasCauseBy false c r past e

-- confirmation: the `Min` is in time, and no leadership begins while another waits for its own
pub record ConfirmsInTime (c : Config) (r : ℕ) (past : List Event) (e : Event) : Type 0 where
  pub in_time : IsInTime (confirming c r) (e ∷ past)
  pub anew : begins_leadership r e ≡ true → steps_left (confirming c r) past ≡ None

-- replayer pace
pub record ReplaysInTime (c : Config) (r : ℕ) (past : List Event) (e : Event) : Type 0 where
  pub reads : IsInTime (reading_own c r) (e ∷ past)
  pub learns : IsInTime (replaying c r) (e ∷ past)

-- head pace
pub record HeadsInTime (c : Config) (r : ℕ) (past : List Event) (e : Event) : Type 0 where
  pub raises : IsInTime (raising_head c r) (e ∷ past)
  pub reads :
      (q : ℕ) → q < c.replicas → q ≢ r → CameLately (is_head_of q) (c.replicas * cycle c) (e ∷ past)

-- the event keeps every pace of r's journal; `again` tells whether r may ask again for a region that
-- has gone astray
pub record KeepsPaceBy (again : Bool) (c : Config) (r : ℕ) (past : List Event) (e : Event) : Type 0
  where
    pub heartbeat_pace : ReadsLately c r past e
    pub grant_pace : (w : ℕ) → IsInTime (granting c r w) (e ∷ past)
    pub election_pace : AsksLately c r past e
    pub progress_bound : IsInTime (progressing c r) (e ∷ past)
    pub evidence_after_a_miss : (p : ℕ) → IsInTime (explaining c r p) (e ∷ past)
    pub ask_discipline : HasCauseBy again c r past e
    pub confirmation : ConfirmsInTime c r past e
    pub raised_fuos : (p : ℕ) → p < c.replicas → IsInTime (raising c r p) (e ∷ past)
    pub asking_after : (p : ℕ) → p < c.replicas → IsInTime (asking_after c r p) (e ∷ past)
    pub joining : (p : ℕ) → p < c.replicas → IsInTime (joining c r p) (e ∷ past)
    pub bringing_up : (p : ℕ) → p < c.replicas → IsInTime (bringing_up c r p) (e ∷ past)
    pub replayer_pace : ReplaysInTime c r past e
    pub head_pace : HeadsInTime c r past e

-- each event of the journal keeps every pace
abbrev pub IsDiligentAtEachMomentBy : Bool → Config → ℕ → List Event → Type 0
IsDiligentAtEachMomentBy again c r [] = Unit {0}
IsDiligentAtEachMomentBy again c r (e ∷ past) =
    IsDiligentAtEachMomentBy again c r past × KeepsPaceBy again c r past e
