-- The lanes before this one are told.
use Rattle.std.proofs.Common.{◌≡◌, List}
use Rattle.mu_model.specs.declared.config.Config.{Config}
use Rattle.mu_model.specs.declared.event.Event.{Event}
use Rattle.mu_model.specs.declared.script.Script.{Script}
use Rattle.mu_picture.specs.Openings.{openings_of}
use Rattle.mu_picture.specs.Trails.{StandsForTrail}
use Rattle.mu_picture.proofs.openings.openings_at.Given as goal

abbrev pub invariant-loop-r : goal.invariant-loop-r
invariant-loop-r l =
    (past : List Event) → (c : Config) → (script : Script) → l.n ≡ c.replicas → StandsForTrail c script past l.trail
    → l.openings.items ≡ openings_of c script l.r past
