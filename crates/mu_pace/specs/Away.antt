-- away, fresh: a leader's counts while it doesn't lead: before the first `Min` of a leadership, and
-- after it is over or another replica is named.
use Rattle.std.specs.Prelude.{List, None, [], false, is_some, true, ℕ, ◌<◌, ◌∷◌, ◌≡◌, ◌⊎◌}
use Rattle.mu_model.specs.declared.config.Config.{Config}
use Rattle.mu_model.specs.declared.event.Event.{Event}
use Rattle.mu_model.specs.declared.event.Verb.{Verb}
use Rattle.mu_model.specs.Diligence.{is_milestone}
use Rattle.mu_model.specs.Leaderships.{begins_leadership, proposal_number}
use Rattle.mu_model.specs.Steps.{is_named, is_over_after, leads}
use Rattle.mu_model.specs.Stretches.{is_replication}
use Rattle.mu_pace.specs.Beside.{is_beside}
use Rattle.mu_pace.specs.Counters.{IsInTime, steps_left}
use Rattle.mu_pace.specs.Placed.{AreInTime, IsPlacedAt}
use Rattle.mu_pace.specs.Watches.{advancing, asking_after, bringing_up, falls_behind, progressing}
use Rattle.mu_pace.specs.Weights.{IsSized, Sizes, Stage}

-- nothing is open but what a background look opened, and all is in time
pub record IsAway (c : Config) (r : ℕ) (now : List Event) : Type 0 where
  pub progressing : steps_left (progressing c r) now ≡ None
  pub advancing : steps_left (advancing c r) now ≡ None
  pub asking : (p : ℕ) → p < c.replicas → IsInTime (asking_after c r p) now
  pub bringing : (p : ℕ) → IsInTime (bringing_up c r p) now

-- nothing at all is open but the asking after others, which is in time
pub record IsFresh (c : Config) (r : ℕ) (now : List Event) : Type 0 where
  pub progressing : steps_left (progressing c r) now ≡ None
  pub advancing : steps_left (advancing c r) now ≡ None
  pub asking : (p : ℕ) → p < c.replicas → IsInTime (asking_after c r p) now
  pub bringing : (p : ℕ) → steps_left (bringing_up c r p) now ≡ None

-- a replication event of a replica that doesn't lead
pub record TakesIdleStep (c : Config) (r : ℕ) (past : List Event) (e : Event) : Type 0 where
  pub turn : is_replication past e ≡ true
  pub not_led : leads r past ≡ false
  pub no_milestone : is_milestone c r past e ≡ false
  pub none_behind : (p : ℕ) → falls_behind c r p past e ≡ false

-- the event ends what a background look opened: a new leadership, one that is over, or another
-- replica named
abbrev pub EndsStretch : Config → ℕ → List Event → Event → Type 0
EndsStretch c r past e =
    (begins_leadership r e ≡ true) ⊎ ((is_over_after r past e ≡ true) ⊎ (is_named c r past ≡ false))

-- the event is a look in the background
pub record LooksBeside (past : List Event) (e : Event) : Type 0 where
  pub beside : is_replication past e ≡ false
  pub region : ℕ
  pub position : ℕ
  pub verb : e.verb ≡ Verb.Look region position

-- a replica that is away stays so, begins again, and is fresh until its first `Min`
pub record AwayIsInTime : Type 0 where
  pub start : (c : Config) (r : ℕ) → IsFresh c r []
  pub in_time : (c : Config) (r : ℕ) (now : List Event) → IsAway c r now → AreInTime c r now
  pub fresh_is_away : (c : Config) (r : ℕ) (now : List Event) → IsFresh c r now → IsAway c r now
  pub over :
      (c : Config) (r : ℕ) (s : Sizes) (t : Stage) (past : List Event) (e : Event) → IsSized s
      → IsPlacedAt c r s t past → is_replication past e ≡ true → is_over_after r past e ≡ true
      → is_milestone c r past e ≡ false → ((p : ℕ) → falls_behind c r p past e ≡ false)
      → IsAway c r (e ∷ past)
  pub resigned :
      (c : Config) (r : ℕ) (past : List Event) (e : Event) → is_replication past e ≡ true
      → is_named c r past ≡ false → is_milestone c r past e ≡ false
      → ((p : ℕ) → falls_behind c r p past e ≡ false) → IsAway c r (e ∷ past)
  pub away_step :
      (c : Config) (r : ℕ) (past : List Event) (e : Event) → IsAway c r past
      → TakesIdleStep c r past e → EndsStretch c r past e → IsAway c r (e ∷ past)
  pub away_beside :
      (c : Config) (r : ℕ) (past : List Event) (e : Event) → IsAway c r past
      → is_replication past e ≡ false → is_beside e.verb ≡ true → IsAway c r (e ∷ past)
  pub away_look :
      (c : Config) (r : ℕ) (past : List Event) (e : Event) → IsAway c r past → LooksBeside past e
      → IsAway c r (e ∷ past)
  pub begins :
      (c : Config) (r : ℕ) (past : List Event) (e : Event) → begins_leadership r e ≡ true
      → is_milestone c r past e ≡ false → ((p : ℕ) → falls_behind c r p past e ≡ false)
      → IsFresh c r (e ∷ past)
  pub fresh_step :
      (c : Config) (r : ℕ) (past : List Event) (e : Event) → IsFresh c r past
      → TakesIdleStep c r past e → IsFresh c r (e ∷ past)
  pub fresh_beside :
      (c : Config) (r : ℕ) (past : List Event) (e : Event) → IsFresh c r past
      → is_replication past e ≡ false → is_beside e.verb ≡ true → IsFresh c r (e ∷ past)
  pub fresh_look :
      (c : Config) (r : ℕ) (past : List Event) (e : Event) → IsFresh c r past → LooksBeside past e
      → is_some (proposal_number r (e ∷ past)) ≡ false → IsFresh c r (e ∷ past)
