-- journals: a beginning of a diligent journal is diligent, and a journal obeys its script only
-- once.
use Rattle.std.specs.Prelude.{List, [], ℕ, ◌++◌, ◌≡◌}
use Rattle.mu_model.specs.declared.config.Config.{Config}
use Rattle.mu_model.specs.declared.event.Event.{Event}
use Rattle.mu_model.specs.declared.script.End.{End}
use Rattle.mu_model.specs.declared.script.Script.{Script}
use Rattle.mu_model.specs.Diligence.{IsDiligent}
use Rattle.mu_model.specs.Ends.{Obeys}

-- each beginning of a diligent journal is diligent
abbrev pub BeginningsAreDiligent : Type 0
BeginningsAreDiligent =
    (c : Config) (r : ℕ) (newer past : List Event) → IsDiligent c r (newer ++ past)
    → IsDiligent c r past

-- a journal that obeys its script has no shorter beginning that does
abbrev pub ObeysOnce : Type 0
ObeysOnce =
    (c : Config) (script : Script) (r : ℕ) (newer past : List Event) (end other : End)
    → Obeys c script r (newer ++ past) end → Obeys c script r past other → newer ≡ []
