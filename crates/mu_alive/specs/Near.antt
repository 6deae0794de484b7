-- near: a replica has taken as many steps as another, or one more or less.
use Rattle.std.specs.Prelude.{Bool, List, length, true, ℕ, ◌+◌, ◌<◌, ◌≡◌, ◌≤◌}
use Rattle.mu_model.specs.declared.config.Config.{Config}
use Rattle.mu_model.specs.declared.event.Event.{Event}
use Rattle.mu_model.specs.Histories.{part}

-- each of these replicas has taken as many steps as a, or one more or less
abbrev pub IsNear : Config → (ℕ → Bool) → ℕ → List Event → Type 0
IsNear c live a now =
    (r : ℕ) → r < c.replicas → live r ≡ true
    → (length (part r now) ≤ length (part a now) + 1)
    × (length (part a now) ≤ length (part r now) + 1)
