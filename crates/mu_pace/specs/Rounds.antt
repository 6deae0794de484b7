-- made at: the event at one place of each round passes a test; then few events came since the last
-- that passes, and what passes isn't made twice in a round.
use Rattle.std.specs.Prelude.{Bool, List, Some, length, true, ℕ, ◌%◌, ◌*◌, ◌+◌, ◌/◌, ◌<◌, ◌∷◌, ◌≡◌, ◌≤◌, ◌⊎◌}
use Rattle.mu_model.specs.declared.event.Event.{Event}
use Rattle.mu_model.specs.Histories.{has, since}
use Rattle.mu_pace.specs.Counters.{HasRoom, IsInTime, Watch}
use Rattle.mu_agree.specs.Moments.{AtEachStep}
use Rattle.mu_pace.specs.Keeping.{CameLately}

-- each event at the place k of a round of n events passes
abbrev pub IsMadeAt : ℕ → ℕ → (Event → Bool) → List Event → Type 0
IsMadeAt n k test past = AtEachStep (λ before e. length before % n ≡ k → test e ≡ true) past

-- no other event passes
abbrev pub IsMadeOnlyAt : ℕ → ℕ → (Event → Bool) → List Event → Type 0
IsMadeOnlyAt n k test past = AtEachStep (λ before e. test e ≡ true → length before % n ≡ k) past

-- the event at the place k of each round closes the count, or there is room for a round more before
-- it
abbrev pub IsClosedAt : ℕ → ℕ → Watch → List Event → Type 0
IsClosedAt n k w past =
    AtEachStep
    (λ before e. length before % n ≡ k → (w.closes before e ≡ true) ⊎ HasRoom w (n + 1) before)
    past

-- at each moment fewer than n events came since the last that passes, and between two that pass
-- there are n - 1 others; a count that allows a round is in time if each round closes it
pub record RoundsKeepPace : Type 0 where
  pub lately :
      (n k : ℕ) (test : Event → Bool) (past : List Event) → k < n → IsMadeAt n k test past
      → CameLately test n past
  pub apart :
      (n k : ℕ) (test : Event → Bool) (past : List Event) (e : Event) → 1 ≤ n
      → IsMadeOnlyAt n k test (e ∷ past) → test e ≡ true → has test past ≡ true
      → n ≤ length (since test past) + 1
  pub closed :
      (n k : ℕ) (w : Watch) (past : List Event) → k < n
      → ((now : List Event) (allowed : ℕ) → w.allows now ≡ Some allowed → n ≤ allowed)
      → IsClosedAt n k w past → IsInTime w past

-- the m-th event is of the background at the place x of a cycle of p places, exactly if it is at
-- the place 2 x of a round of 2 p events
pub record PlacesAreIndices : Type 0 where
  pub index : (p x m : ℕ) → 1 ≤ p → m % 2 ≡ 0 → m / 2 % p ≡ x → m % (2 * p) ≡ 2 * x
  pub place : (p x m : ℕ) → 1 ≤ p → m % (2 * p) ≡ 2 * x → (m % 2 ≡ 0) × (m / 2 % p ≡ x)
