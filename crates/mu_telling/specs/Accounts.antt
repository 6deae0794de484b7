-- account: what the events of a list come to, and how each replica has ended so far.
use Rattle.std.specs.Prelude.{List, Some, [], length, suc, zero, ℕ, ◌++◌, ◌∷◌, ◌≡◌}
use Rattle.std.specs.List.{slice_get}
use Rattle.mu_outcome.specs.declared.account.EndSoFar.{EndSoFar}
use Rattle.mu_course.specs.SoFar.{IsSoFar}
use Rattle.mu_model.specs.declared.config.Config.{Config}
use Rattle.mu_model.specs.declared.event.Event.{Event}
use Rattle.mu_model.specs.declared.script.Script.{Script}
use Rattle.mu_model.specs.Histories.{history, part}
use Rattle.mu_outcome.specs.Reached.{IsReached}
use Rattle.mu_outcome.specs.declared.account.Account.{Account}

-- what f gives of each number below n, in order
abbrev pub each_below : {A : Type 0} → ℕ → (ℕ → A) → List A
each_below zero f = []
each_below (suc n) f = each_below n f ++ f n ∷ []

-- how each of the first n replicas has ended so far
pub record AreEnds (c : Config) (script : Script) (past : List Event) (n : ℕ)
    (ends : List EndSoFar) : Type 0 where
  pub count : length ends ≡ n
  pub each :
      (r : ℕ) (end : EndSoFar) → slice_get ends r ≡ Some end
      → IsSoFar c script r (part r past) end

-- this is what the list comes to
pub record IsAccount (events : List Event) (account : Account) : Type 0 where
  pub reached : IsReached events account.outcome
  pub ends :
      AreEnds account.outcome.job.config account.outcome.job.script (history events)
      account.outcome.job.config.replicas account.ends
