-- closed counts: a replication event before which another replica is named closes the counts of a
-- leader.
use Rattle.std.specs.Prelude.{List, None, false, true, ℕ, ◌*◌, ◌∷◌, ◌≡◌}
use Rattle.mu_model.specs.declared.config.Config.{Config}
use Rattle.mu_model.specs.declared.event.Event.{Event}
use Rattle.mu_model.specs.Diligence.{is_milestone}
use Rattle.mu_model.specs.Steps.{commits_more, is_missed_at, is_named}
use Rattle.mu_model.specs.Stretches.{is_replication}
use Rattle.mu_pace.specs.Away.{IsFresh}
use Rattle.mu_pace.specs.Counters.{HasRoom, steps_left}
use Rattle.mu_pace.specs.Placed.{FitsSizes, IsPlacedAt}
use Rattle.mu_pace.specs.Watches.{advancing, asking_after, bringing_up, confirming, explaining, falls_behind, is_confirming, is_welcoming, joining, limit_now, progressing, raising}
use Rattle.mu_pace.specs.Weights.{IsPlace, IsSized, Sizes, Stage}

-- the event opens no count, except for the asking after others
pub record OpensNone (c : Config) (r : ℕ) (past : List Event) (e : Event) : Type 0 where
  pub milestone : is_milestone c r past e ≡ false
  pub missed : (p : ℕ) → is_missed_at p e ≡ false
  pub confirming : is_confirming c r past e ≡ false
  pub commits : commits_more c r past e ≡ false
  pub welcoming : (p : ℕ) → is_welcoming c r p past e ≡ false
  pub behind : (p : ℕ) → falls_behind c r p past e ≡ false

-- no count is open, except for the asking after others, which has all the steps that it may have
pub record AreClosed (c : Config) (r : ℕ) (now : List Event) : Type 0 where
  pub progressing : steps_left (progressing c r) now ≡ None
  pub advancing : steps_left (advancing c r) now ≡ None
  pub explaining : (p : ℕ) → steps_left (explaining c r p) now ≡ None
  pub confirming : steps_left (confirming c r) now ≡ None
  pub raising : (p : ℕ) → steps_left (raising c r p) now ≡ None
  pub asking : (p : ℕ) → HasRoom (asking_after c r p) (2 * limit_now c r now) now
  pub joining : (p : ℕ) → steps_left (joining c r p) now ≡ None
  pub bringing : (p : ℕ) → steps_left (bringing_up c r p) now ≡ None

-- an event that opens none, and before which another replica is named, closes the counts; they are
-- then those of a replica that doesn't lead, and have the room of any place
pub record CountsClose : Type 0 where
  pub unnamed :
      (c : Config) (r : ℕ) (past : List Event) (e : Event) → is_replication past e ≡ true
      → is_named c r past ≡ false → OpensNone c r past e → AreClosed c r (e ∷ past)
  pub fresh : (c : Config) (r : ℕ) (now : List Event) → AreClosed c r now → IsFresh c r now
  pub placed :
      (c : Config) (r : ℕ) (s : Sizes) (t : Stage) (now : List Event) → IsSized s
      → FitsSizes c r s now → IsPlace s t → AreClosed c r now → IsPlacedAt c r s t now
