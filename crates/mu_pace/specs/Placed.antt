-- placed: every count of a leader has the room that its place's weight asks for; and what each kind
-- of step between places leaves of it.
use Rattle.std.specs.Prelude.{Bool, List, None, false, true, ℕ, ◌+◌, ◌<◌, ◌||◌, ◌∷◌, ◌≡◌, ◌⊎◌}
use Rattle.mu_model.specs.declared.config.Config.{Config}
use Rattle.mu_model.specs.declared.event.Event.{Event}
use Rattle.mu_model.specs.Bounds.{is_copying, is_learning, members}
use Rattle.mu_model.specs.Diligence.{is_milestone}
use Rattle.mu_model.specs.Leaderships.{is_member}
use Rattle.mu_model.specs.Steps.{is_fencing, is_named, is_over_after, knows_all, leads}
use Rattle.mu_model.specs.Stretches.{is_replication}
use Rattle.mu_pace.specs.Asking.{AsksCopying, AsksJoining, AsksOn, asking}
use Rattle.mu_pace.specs.Beside.{is_beside}
use Rattle.mu_pace.specs.Counters.{HasRoom, IsInTime, Watch, steps_left}
use Rattle.mu_pace.specs.Watches.{advancing, asking_after, bringing_up, falls_behind, is_brought_up, progressing}
use Rattle.mu_pace.specs.Weights.{Copies, GoesOn, IsPlace, IsSized, Joins, Sizes, Stage, joined, weight}

-- the sizes are those of the configuration, with the members of the moment
pub record FitsSizes (c : Config) (r : ℕ) (s : Sizes) (now : List Event) : Type 0 where
  pub replicas : s.replicas ≡ c.replicas
  pub width : s.width ≡ c.width
  pub members : s.members ≡ members c r now

-- at these places every member is brought up
abbrev pub is_level : Stage → Bool
is_level (Stage.LateFence p) = true
is_level (Stage.LateMin p) = true
is_level (Stage.LateFuo p) = true
is_level (Stage.LateEnter p) = true
is_level (Stage.LatePut p) = true
is_level (Stage.ReadHead q) = true
is_level (Stage.LookAt k) = true
is_level (Stage.Write words) = true
is_level (Stage.EnterAt k) = true
is_level (Stage.PutAt k) = true
is_level (Stage.RaiseAt k) = true
is_level Stage.Rest = true
is_level _ = false

-- the count is closed at a level place, and has room elsewhere
abbrev pub IsBrought : Bool → Watch → ℕ → List Event → Type 0
IsBrought true w n now = steps_left w now ≡ None
IsBrought false w n now = HasRoom w n now

-- the leader is at the place t: each count has room for what the place weighs
pub record IsPlacedAt (c : Config) (r : ℕ) (s : Sizes) (t : Stage) (now : List Event) : Type 0 where
  pub sizes : FitsSizes c r s now
  pub place : IsPlace s t
  pub progressing : HasRoom (progressing c r) (weight s t) now
  pub advancing : HasRoom (advancing c r) (weight s t) now
  pub asking : (p : ℕ) → p < c.replicas → HasRoom (asking_after c r p) (asking s p t) now
  pub bringing : (p : ℕ) → IsBrought (is_level t) (bringing_up c r p) (weight s t) now

-- what the step leaves for each late follower: the next place by the edges of its weights, or its
-- fence was read
abbrev pub Asks :
    (ℕ → Stage → Stage → Type 0) → Config → ℕ → Stage → Stage → List Event → Event → Type 0
Asks edge c r t u past e =
    (p : ℕ) → p < c.replicas → is_member r p (e ∷ past) ≡ false
    → edge p t u ⊎ (is_fencing p e ≡ true)

-- a step to a level place leaves every member brought up, or came from a level place
abbrev pub Levels : Config → ℕ → Stage → Stage → List Event → Event → Type 0
Levels c r t u past e =
    is_level u ≡ true
    → (is_level t ≡ true)
    ⊎ ((p : ℕ) → is_member r p (e ∷ past) ≡ true → is_brought_up c r p (e ∷ past) ≡ true)

-- a step that nothing pays for
pub record TakesStep (c : Config) (r : ℕ) (s : Sizes) (t u : Stage) (past : List Event)
    (e : Event) : Type 0 where
  pub turn : is_replication past e ≡ true
  pub edge : GoesOn s t u
  pub place : IsPlace s u
  pub no_milestone : is_milestone c r past e ≡ false
  pub none_behind : (p : ℕ) → falls_behind c r p past e ≡ false
  pub same : members c r (e ∷ past) ≡ members c r past
  pub asks : Asks (AsksOn s) c r t u past e
  pub levels : Levels c r t u past e

-- a step that learns or copies an entry
pub record TakesCopy (c : Config) (r : ℕ) (s : Sizes) (t u : Stage) (past : List Event)
    (e : Event) : Type 0 where
  pub turn : is_replication past e ≡ true
  pub edge : Copies s t u
  pub place : IsPlace s u
  pub no_milestone : is_milestone c r past e ≡ false
  pub copies : (is_learning c r past e || is_copying c r past e) ≡ true
  pub same : members c r (e ∷ past) ≡ members c r past
  pub asks : Asks (AsksCopying s) c r t u past e
  pub levels :
      is_level u ≡ true → (p : ℕ) → is_member r p (e ∷ past) ≡ true
      → is_brought_up c r p (e ∷ past) ≡ true

-- a step by which a region becomes a member
pub record TakesJoin (c : Config) (r : ℕ) (s : Sizes) (t u : Stage) (past : List Event)
    (e : Event) : Type 0 where
  pub turn : is_replication past e ≡ true
  pub edge : Joins s t u
  pub place : IsPlace (joined s) u
  pub no_milestone : is_milestone c r past e ≡ false
  pub more : members c r (e ∷ past) ≡ members c r past + 1
  pub asks : Asks (AsksJoining s) c r t u past e
  pub levels :
      is_level u ≡ true → (p : ℕ) → is_member r p (e ∷ past) ≡ true
      → is_brought_up c r p (e ∷ past) ≡ true

-- a commit, or a lagging head: progress from one level place to another, and an advance or a step
-- to a lighter place
pub record TakesMilestone (c : Config) (r : ℕ) (s : Sizes) (t u : Stage) (past : List Event)
    (e : Event) : Type 0 where
  pub turn : is_replication past e ≡ true
  pub place : IsPlace s u
  pub milestone : is_milestone c r past e ≡ true
  pub progress : (progressing c r).closes past e ≡ true
  pub advance : ((advancing c r).closes past e ≡ true) ⊎ GoesOn s t u
  pub none_behind : (p : ℕ) → falls_behind c r p past e ≡ false
  pub same : members c r (e ∷ past) ≡ members c r past
  pub asks : Asks (AsksOn s) c r t u past e
  pub from_level : is_level t ≡ true
  pub to_level : is_level u ≡ true

-- a step when every command is known: the late followers are gone through again
pub record TakesKnown (c : Config) (r : ℕ) (s : Sizes) (t u : Stage) (past : List Event)
    (e : Event) : Type 0 where
  pub turn : is_replication past e ≡ true
  pub known : knows_all c r past ≡ true
  pub place : IsPlace s u
  pub no_milestone : is_milestone c r past e ≡ false
  pub none_behind : (p : ℕ) → falls_behind c r p past e ≡ false
  pub same : members c r (e ∷ past) ≡ members c r past
  pub asks : Asks (AsksOn s) c r t u past e
  pub to_level : is_level u ≡ true
  pub levels : Levels c r t u past e

-- the same by which a region becomes a member
pub record TakesLastJoin (c : Config) (r : ℕ) (s : Sizes) (t u : Stage) (past : List Event)
    (e : Event) : Type 0 where
  pub turn : is_replication past e ≡ true
  pub known : knows_all c r past ≡ true
  pub place : IsPlace (joined s) u
  pub no_milestone : is_milestone c r past e ≡ false
  pub more : members c r (e ∷ past) ≡ members c r past + 1
  pub asks : Asks (AsksJoining s) c r t u past e
  pub to_level : is_level u ≡ true
  pub levels : (p : ℕ) → is_member r p (e ∷ past) ≡ true → is_brought_up c r p (e ∷ past) ≡ true

-- the first `Min` of a leadership
pub record TakesFirst (c : Config) (r : ℕ) (s : Sizes) (u : Stage) (past : List Event)
    (e : Event) : Type 0 where
  pub turn : is_replication past e ≡ true
  pub place : IsPlace s u
  pub sizes : FitsSizes c r s (e ∷ past)
  pub milestone : is_milestone c r past e ≡ true
  pub none_behind : (p : ℕ) → falls_behind c r p past e ≡ false
  pub not_led : leads r past ≡ false
  pub quiet : steps_left (progressing c r) past ≡ None
  pub quiet_advancing : steps_left (advancing c r) past ≡ None
  pub quiet_bringing : (p : ℕ) → steps_left (bringing_up c r p) past ≡ None

-- each count is in time
pub record AreInTime (c : Config) (r : ℕ) (now : List Event) : Type 0 where
  pub progressing : IsInTime (progressing c r) now
  pub advancing : IsInTime (advancing c r) now
  pub asking : (p : ℕ) → p < c.replicas → IsInTime (asking_after c r p) now
  pub bringing : (p : ℕ) → IsInTime (bringing_up c r p) now

-- a leader at a place stays at places by every kind of step, and is in time; so is one whose
-- leadership is over or that isn't named any more
pub record PlacesLead : Type 0 where
  pub step :
      (c : Config) (r : ℕ) (s : Sizes) (t u : Stage) (past : List Event) (e : Event) → IsSized s
      → IsPlacedAt c r s t past → TakesStep c r s t u past e → IsPlacedAt c r s u (e ∷ past)
  pub copy :
      (c : Config) (r : ℕ) (s : Sizes) (t u : Stage) (past : List Event) (e : Event) → IsSized s
      → IsPlacedAt c r s t past → TakesCopy c r s t u past e → IsPlacedAt c r s u (e ∷ past)
  pub join :
      (c : Config) (r : ℕ) (s : Sizes) (t u : Stage) (past : List Event) (e : Event) → IsSized s
      → IsPlacedAt c r s t past → TakesJoin c r s t u past e
      → IsPlacedAt c r (joined s) u (e ∷ past)
  pub milestone :
      (c : Config) (r : ℕ) (s : Sizes) (t u : Stage) (past : List Event) (e : Event) → IsSized s
      → IsPlacedAt c r s t past → TakesMilestone c r s t u past e → IsPlacedAt c r s u (e ∷ past)
  pub known :
      (c : Config) (r : ℕ) (s : Sizes) (t u : Stage) (past : List Event) (e : Event) → IsSized s
      → IsPlacedAt c r s t past → TakesKnown c r s t u past e → IsPlacedAt c r s u (e ∷ past)
  pub last_join :
      (c : Config) (r : ℕ) (s : Sizes) (t u : Stage) (past : List Event) (e : Event) → IsSized s
      → IsPlacedAt c r s t past → TakesLastJoin c r s t u past e
      → IsPlacedAt c r (joined s) u (e ∷ past)
  pub first :
      (c : Config) (r : ℕ) (s : Sizes) (u : Stage) (past : List Event) (e : Event) → IsSized s
      → TakesFirst c r s u past e → IsPlacedAt c r s u (e ∷ past)
  pub beside :
      (c : Config) (r : ℕ) (s : Sizes) (t : Stage) (past : List Event) (e : Event)
      → is_replication past e ≡ false → is_beside e.verb ≡ true → IsPlacedAt c r s t past
      → IsPlacedAt c r s t (e ∷ past)
  pub in_time :
      (c : Config) (r : ℕ) (s : Sizes) (t : Stage) (now : List Event) → IsSized s
      → IsPlacedAt c r s t now → AreInTime c r now
  pub over :
      (c : Config) (r : ℕ) (s : Sizes) (t : Stage) (past : List Event) (e : Event) → IsSized s
      → IsPlacedAt c r s t past → is_replication past e ≡ true → is_over_after r past e ≡ true
      → is_milestone c r past e ≡ false → ((p : ℕ) → falls_behind c r p past e ≡ false)
      → AreInTime c r (e ∷ past)
  pub resigned :
      (c : Config) (r : ℕ) (past : List Event) (e : Event) → is_replication past e ≡ true
      → is_named c r past ≡ false
      → is_milestone c r past e ≡ false → ((p : ℕ) → falls_behind c r p past e ≡ false)
      → AreInTime c r (e ∷ past)
