-- chosen: a value that a majority of the regions took under one number.
use Rattle.std.specs.Prelude.{Bool, List, false, ℕ, ◌&&◌, ◌==◌, ◌≤◌}
use Rattle.mu_model.specs.declared.config.Config.{Config}
use Rattle.mu_model.specs.declared.event.Answer.{Answer}
use Rattle.mu_model.specs.declared.event.Event.{Event}
use Rattle.mu_model.specs.declared.event.Verb.{Verb}
use Rattle.mu_model.specs.Histories.{count_below, has}
use Rattle.mu_model.specs.Leaderships.{majority_of}

-- the step is `PutSlot(p, i, b, v)` of any replica, answered `Done`
abbrev pub is_accepted_at : ℕ → ℕ → ℕ → ℕ → Verb → Answer → Bool
is_accepted_at p i b v (Verb.PutSlot q j n w) Answer.Done =
    (q == p) && ((j == i) && ((n == b) && (w == v)))
is_accepted_at p i b v _ _ = false

-- v is chosen at i under the number b: a majority of the regions took it
abbrev pub IsChosenUnder : Config → List Event → ℕ → ℕ → ℕ → Type 0
IsChosenUnder c past i b v =
    majority_of c.replicas
    ≤ count_below c.replicas (λ p. has (λ e. is_accepted_at p i b v e.verb e.answer) past)

-- v is chosen at i
abbrev pub IsChosen : Config → List Event → ℕ → ℕ → Type 0
IsChosen c past i v = (b : ℕ) × IsChosenUnder c past i b v
