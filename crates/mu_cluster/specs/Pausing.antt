-- pauses by, none outrun in a large ring: each pause of a script begins after so many steps at most;
-- no replica of a replay in a large ring was outrun.
use Rattle.std.specs.Prelude.{List, Some, [], ℕ, ◌<◌, ◌∷◌, ◌≡◌, ◌≤◌}
use Rattle.std.specs.List.{slice_get}
use Rattle.mu_model.specs.declared.script.End.{End}
use Rattle.mu_model.specs.declared.script.Pause.{Pause}
use Rattle.mu_alive.specs.Enough.{HasLargeRing}
use Rattle.mu_outcome.specs.declared.outcome.Outcome.{Outcome}

-- each pause begins after at most k steps of its replica
abbrev pub PausesBy : List Pause → ℕ → Type 0
PausesBy [] k = Unit {0}
PausesBy (pause ∷ pauses) k = (pause.steps ≤ k) × PausesBy pauses k

-- in a large ring no replica is outrun, paused or not
abbrev pub NoneOutrunInLargeRing : Outcome → Type 0
NoneOutrunInLargeRing o =
    HasLargeRing o.job.config → (r p i : ℕ) → r < o.job.config.replicas
    → slice_get o.ends r ≡ Some (End.Outrun p i) → ⊥
