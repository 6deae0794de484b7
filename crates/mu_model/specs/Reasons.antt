-- reason: the first point of what a verb needs that isn't met.
use Rattle.std.specs.Prelude.{List, None, Some, ℕ, ◌++◌, ◌∷◌, ◌≡◌}
use Rattle.std.specs.declared.option.Option.{Option}
use Rattle.mu_model.specs.declared.config.Config.{Config}
use Rattle.mu_model.specs.declared.event.Event.{Event}
use Rattle.mu_model.specs.declared.event.Verb.{Verb}
use Rattle.mu_model.specs.declared.reason.Reason.{Reason}
use Rattle.mu_model.specs.Points.{AreMet, IsMet, points}

-- the reason is the first of these points that isn't met
pub record FailsFirst (c : Config) (r : ℕ) (past : List Event) (reasons : List Reason)
    (reason : Reason) : Type 0 where
  pub before : List Reason
  pub after : List Reason
  pub order : reasons ≡ before ++ reason ∷ after
  pub met : AreMet c r past before
  pub fails : ¬ IsMet c r past reason

-- the first of these points that isn't met, if any isn't
abbrev pub Finds : Config → ℕ → List Event → List Reason → Option Reason → Type 0
Finds c r past reasons None = AreMet c r past reasons
Finds c r past reasons (Some reason) = FailsFirst c r past reasons reason

-- the reason why r may not make the verb
abbrev pub IsReason : Config → ℕ → List Event → Verb → Reason → Type 0
IsReason c r past verb reason = FailsFirst c r past (points c r past verb) reason
