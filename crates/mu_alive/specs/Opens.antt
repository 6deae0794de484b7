-- opens in time: a replica that names itself asks each region in time until it reads a minimum, and
-- puts a number soon after, whatever it knows.
use Rattle.std.specs.Prelude.{List, false, true, ℕ, ◌*◌, ◌++◌, ◌+◌, ◌<◌, ◌∷◌, ◌≡◌, ◌≤◌}
use Rattle.mu_model.specs.declared.config.Config.{Config}
use Rattle.mu_model.specs.declared.event.Event.{Event}
use Rattle.mu_model.specs.Histories.{has}
use Rattle.mu_model.specs.Leaderships.{is_over}
use Rattle.mu_model.specs.Steps.{has_min, is_asking, is_min, is_named, named_throughout, replicates}
use Rattle.mu_model.specs.Stretches.{IsStretch, replications}
use Rattle.mu_agree.specs.Moments.{AtEachMoment}
use Rattle.mu_pace.specs.Watches.{puts_number}

-- in any 17 n + 1 replication events throughout which r names itself each region is asked, if it
-- has read no minimum
abbrev pub AsksUntilMin : Config → ℕ → List Event → Type 0
AsksUntilMin c r mine =
    (p : ℕ) (window older : List Event) → p < c.replicas → IsStretch mine window older
    → replications window older ≡ 17 * c.replicas + 1 → named_throughout c r window older ≡ true
    → AtEachMoment (λ now. has_min r now ≡ false) (window ++ older)
    → replicates (λ before e. is_asking p e) window older ≡ true

-- of n + 2 replication events after its first minimum one puts a number, if r goes on naming itself
-- and its leadership isn't over
abbrev pub NumbersInTime : Config → ℕ → List Event → Type 0
NumbersInTime c r mine =
    (e : Event) (window older : List Event) → IsStretch mine window (e ∷ older) → is_min e ≡ true
    → AtEachMoment (λ now. has_min r now ≡ false) older
    → AtEachMoment (λ now. is_over r now ≡ false) (window ++ e ∷ older)
    → AtEachMoment (λ now. has_min r now ≡ true → is_named c r now ≡ true) (window ++ e ∷ older)
    → c.replicas + 2 ≤ replications window (e ∷ older) → has (puts_number r) window ≡ true

-- both
pub record OpensInTime (c : Config) (r : ℕ) (mine : List Event) : Type 0 where
  pub asks : AsksUntilMin c r mine
  pub numbers : NumbersInTime c r mine
