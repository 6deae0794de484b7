-- is stopped: whether a script stops a replica.
use Rattle.std.specs.Prelude.{Bool, List, [], false, ℕ, ◌==◌, ◌||◌, ◌∷◌}
use Rattle.mu_model.specs.declared.script.Stop.{Stop}

-- one of these stops is of replica r
abbrev pub is_stopped : ℕ → List Stop → Bool
is_stopped r [] = false
is_stopped r (stop ∷ stops) = (stop.replica == r) || is_stopped r stops
