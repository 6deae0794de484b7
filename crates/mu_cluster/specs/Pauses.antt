-- next pause: the first pause of a replica once it has taken a number of steps.
use Rattle.std.specs.Prelude.{Bool, List, None, Some, [], nat_lt, true, ℕ, ◌≡◌, ◌≤◌}
use Rattle.std.specs.declared.option.Option.{Option}
use Rattle.mu_model.specs.declared.script.Pause.{Pause}
use Rattle.mu_outcome.specs.Turns.{rounds_paused}

-- the step is before this pause, if there is one
abbrev pub is_sooner : ℕ → Option Pause → Bool
is_sooner steps None = true
is_sooner steps (Some next) = nat_lt steps next.steps

-- of the lines before `rest` this is the first that pauses r once it has taken so many steps: at the
-- steps before it only lines of the rest can
pub record IsNextBefore (pauses rest : List Pause) (r taken : ℕ) (found : Option Pause)
    : Type 0 where
  pub next :
      (pause : Pause) → found ≡ Some pause
      → (taken ≤ pause.steps) × (rounds_paused pauses r pause.steps ≡ pause.rounds)
  pub left :
      (steps : ℕ) → taken ≤ steps → is_sooner steps found ≡ true
      → rounds_paused rest r steps ≡ rounds_paused pauses r steps

-- of all lines it is
abbrev pub IsNextPause : List Pause → ℕ → ℕ → Option Pause → Type 0
IsNextPause pauses r taken next = IsNextBefore pauses [] r taken next
