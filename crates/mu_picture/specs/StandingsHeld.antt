-- When the standings that are kept are those of the lanes.
use Rattle.std.specs.Prelude.{ℕ, ◌≡◌, ◌≤◌, List, Some}
use Rattle.std.specs.List.{slice_get}
use Rattle.mu_model.specs.declared.config.Config.{Config}
use Rattle.mu_model.specs.declared.event.Event.{Event}
use Rattle.mu_model.specs.declared.script.Script.{Script}
use Rattle.mu_picture.specs.Standings.{standing_of}
use Rattle.mu_picture.specs.declared.standings.Standing.{Standing}
use Rattle.mu_picture.specs.declared.standings.Standings.{Standings}

-- each of them is how a lane stands after the history
pub record HoldStandings (c : Config) (script : Script) (past : List Event)
    (standings : Standings) : Type 0 where
  pub few : c.replicas ≤ 7
  pub each :
      (r : ℕ) (standing : Standing) → slice_get standings.lanes r ≡ Some standing
      → standing ≡ standing_of c script r past
