-- beside: background events that leave every count of a leader's steps as it is.
use Rattle.std.specs.Prelude.{Bool, List, false, true, ℕ, ◌∷◌, ◌≡◌}
use Rattle.mu_model.specs.declared.config.Config.{Config}
use Rattle.mu_model.specs.declared.event.Event.{Event}
use Rattle.mu_model.specs.declared.event.Verb.{Verb}
use Rattle.mu_model.specs.Stretches.{is_replication}
use Rattle.mu_pace.specs.Counters.{HasRoom, Watch}
use Rattle.mu_pace.specs.Watches.{advancing, asking_after, bringing_up, confirming, explaining, joining, progressing, raising}

-- a verb that neither begins, carries on nor ends what a leader does, and teaches no entry
abbrev pub is_beside : Verb → Bool
is_beside (Verb.Ask p) = false
is_beside (Verb.Fence p) = false
is_beside (Verb.Min p) = false
is_beside (Verb.Enter p t) = false
is_beside (Verb.PutMin p b) = false
is_beside (Verb.Look p i) = false
is_beside (Verb.PutSlot p i b v) = false
is_beside _ = true

-- the event leaves the room of the count
abbrev pub Keeps : Watch → List Event → Event → Type 0
Keeps w past e = (weight : ℕ) → HasRoom w weight past → HasRoom w weight (e ∷ past)

-- the event leaves the room of each count of a leader's steps
pub record KeepsRooms (c : Config) (r : ℕ) (past : List Event) (e : Event) : Type 0 where
  pub progressing : Keeps (progressing c r) past e
  pub advancing : Keeps (advancing c r) past e
  pub explaining : (p : ℕ) → Keeps (explaining c r p) past e
  pub confirming : Keeps (confirming c r) past e
  pub raising : (p : ℕ) → Keeps (raising c r p) past e
  pub asking_after : (p : ℕ) → Keeps (asking_after c r p) past e
  pub joining : (p : ℕ) → Keeps (joining c r p) past e
  pub bringing_up : (p : ℕ) → Keeps (bringing_up c r p) past e

-- a background event alongside the leader leaves them all
abbrev pub BesideKeepsRooms : Type 0
BesideKeepsRooms =
    (c : Config) (r : ℕ) (past : List Event) (e : Event) → is_replication past e ≡ false
    → is_beside e.verb ≡ true → KeepsRooms c r past e
