-- was stopped, goes on with: a line of the script stopped the replica, by its end; the least replica
-- of a majority that no line stopped.
use Rattle.std.specs.Prelude.{Bool, Some, false, not, true, ℕ, ◌<◌, ◌≡◌, ◌≤◌}
use Rattle.std.specs.declared.option.Option.{Option}
use Rattle.std.specs.List.{slice_get}
use Rattle.mu_model.specs.declared.script.End.{End}
use Rattle.mu_model.specs.Histories.{count_below}
use Rattle.mu_model.specs.Leaderships.{majority_of}
use Rattle.mu_outcome.specs.declared.outcome.Outcome.{Outcome}

abbrev pub is_stop : Option End → Bool
is_stop (Some End.Stopped) = true
is_stop _ = false

-- replica r was stopped: a line of the script whose step it reached
abbrev pub was_stopped : Outcome → ℕ → Bool
was_stopped o r = is_stop (slice_get o.ends r)

-- a majority wasn't stopped, and s is the least of those
pub record GoesOnWith (o : Outcome) (s : ℕ) : Type 0 where
  pub inside : s < o.job.config.replicas
  pub left : was_stopped o s ≡ false
  pub lower : (r : ℕ) → r < s → was_stopped o r ≡ true
  pub majority :
      majority_of o.job.config.replicas
      ≤ count_below o.job.config.replicas (λ r. not (was_stopped o r))
