-- elects: the most steps since each region was asked and its fence read, at each place of a leader:
-- a replica that has to ask does both in time.
use Rattle.std.specs.Prelude.{List, false, true, ℕ, ◌*◌, ◌+◌, ◌<◌, ◌≡◌, ◌≤◌}
use Rattle.mu_agree.specs.Paces.{asks_or_rests, steps_since}
use Rattle.mu_model.specs.declared.config.Config.{Config}
use Rattle.mu_model.specs.declared.event.Event.{Event}
use Rattle.mu_model.specs.Steps.{has_min, is_asking, is_fencing}
use Rattle.mu_lead.specs.declared.place.Place.{Place}

-- how many replication events came since r asked q, or did not have to
abbrev pub since_ask : Config → ℕ → ℕ → List Event → ℕ
since_ask c r q mine = steps_since (asks_or_rests c r (is_asking q)) mine

-- and since it read the fence of q, or did not have to ask
abbrev pub since_fence : Config → ℕ → ℕ → List Event → ℕ
since_fence c r q mine = steps_since (asks_or_rests c r (is_fencing q)) mine

-- the region p is asked next: those below were asked in turn, the others before 16 rounds
pub record AsksNext (c : Config) (r : ℕ) (mine : List Event) (p : ℕ) : Type 0 where
  pub asked : (q : ℕ) → q < p → since_ask c r q mine + q < p
  pub asks :
      (q : ℕ) → p ≤ q → q < c.replicas → since_ask c r q mine + q < 17 * c.replicas + p
  pub fences : (q : ℕ) → q < c.replicas → since_fence c r q mine ≤ c.replicas + p

-- the fence of p is read next, in this round: those below were read in turn, the others before the
-- asks or in the round before
pub record FencesNext (c : Config) (r : ℕ) (mine : List Event) (round p : ℕ) : Type 0 where
  pub asks :
      (q : ℕ) → q < c.replicas
      → since_ask c r q mine + q < (round + 1) * c.replicas + p
  pub fenced : (q : ℕ) → q < p → since_fence c r q mine + q < p
  pub fences :
      (q : ℕ) → p ≤ q → q < c.replicas → since_fence c r q mine ≤ 2 * c.replicas + p

-- at least `left` steps are left to ask each region, and to read each fence
pub record HasStepsLeft (c : Config) (r : ℕ) (mine : List Event) (left : ℕ) : Type 0 where
  pub asks : (q : ℕ) → q < c.replicas → since_ask c r q mine + left ≤ 17 * c.replicas
  pub fences : (q : ℕ) → q < c.replicas → since_fence c r q mine + left ≤ 17 * c.replicas

-- a minimum was read, and each step in a leadership that leads needs no ask
pub record HasLed (c : Config) (r : ℕ) (mine : List Event) : Type 0 where
  pub read : has_min r mine ≡ true
  pub left : HasStepsLeft c r mine 0

-- a minimum is read next, and there is a step left for the first one
pub record ReadsNext (c : Config) (r : ℕ) (mine : List Event) : Type 0 where
  pub first : has_min r mine ≡ false → HasStepsLeft c r mine 1
  pub later : has_min r mine ≡ true → HasStepsLeft c r mine 0

-- what holds of asks at a place; if a put has missed, the replica has just led
abbrev pub ElectsAt : Config → ℕ → List Event → Place → Type 0
ElectsAt c r mine (Place.Ask p) = AsksNext c r mine p
ElectsAt c r mine (Place.Confirm round p) = FencesNext c r mine round p
ElectsAt c r mine (Place.ReadMin p) = ReadsNext c r mine
ElectsAt c r mine (Place.Evidence p) = HasStepsLeft c r mine (17 * c.replicas)
ElectsAt c r mine place = HasLed c r mine
