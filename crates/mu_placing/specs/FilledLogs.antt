-- stands for, knowing (filled logs): the state of how far each log is known to be filled, and to
-- have what r knows, stands for the events of r; what holds with what r knows and has put.
use Rattle.std.specs.Prelude.{Bool, List, Some, false, length, true, ℕ, ◌<◌, ◌∷◌, ◌≡◌, ◌≤◌}
use Rattle.std.specs.List.{slice_get}
use Rattle.mu_model.specs.declared.config.Config.{Config}
use Rattle.mu_model.specs.declared.event.Event.{Event}
use Rattle.mu_model.specs.Contents.{IsConfig}
use Rattle.mu_model.specs.Histories.{has}
use Rattle.mu_model.specs.Knowledge.{known}
use Rattle.mu_model.specs.Leaderships.{leadership}
use Rattle.mu_model.specs.Parts.{IsPossible}
use Rattle.mu_model.specs.Placing.{is_caught_up_at, is_known_put}
use Rattle.mu_placing.specs.declared.filled_logs.Coverage.{Coverage}
use Rattle.mu_placing.specs.declared.filled_logs.FilledLogs.{FilledLogs}
use Rattle.mu_placing.specs.declared.landed_puts.LandedPuts.{LandedPuts}
use Rattle.mu_placing.specs.LandedPuts.{StandsForLandedPuts}
use Rattle.mu_knowledge.specs.FilledLog.{StandsForFilledLog}

-- the known value of position j was put at region p in the leadership
abbrev pub has_known : Config → ℕ → ℕ → List Event → ℕ → Bool
has_known c r p mine j =
    has (λ e. is_known_put (known c r mine) r p j e.by e.verb e.answer) (leadership r mine)

-- from one position on up to the next the known values were put at region p, and not there
pub record IsFirstBehind (c : Config) (r p : ℕ) (mine : List Event) (from next : ℕ) : Type 0 where
  pub low : from ≤ next
  pub had : (j : ℕ) → from ≤ j → j < next → has_known c r p mine j ≡ true
  pub lacks : has_known c r p mine next ≡ false

-- the state stands for what r knows of the log of region p
pub record HoldsCoverage (c : Config) (r p : ℕ) (mine : List Event)
    (region : Coverage) : Type 0 where
  pub id : region.id ≡ p
  pub log : StandsForFilledLog c r p mine region.log
  pub caught : (j : ℕ) → j < region.caught_to → is_caught_up_at c r p mine j ≡ true
  pub caught_next : is_caught_up_at c r p mine region.caught_to ≡ false

-- each state of the list stands for what r knows of its region, counted from 0
abbrev pub HoldsCoverages : Config → ℕ → List Event → List Coverage → Type 0
HoldsCoverages c r mine regions =
    (p : ℕ) (region : Coverage) → slice_get regions p ≡ Some region
    → HoldsCoverage c r p mine region

-- the state stands for what r knows of the logs of seven regions
pub record StandsForFilledLogs (c : Config) (r : ℕ) (mine : List Event)
    (state : FilledLogs) : Type 0 where
  pub count : length state.regions.items ≡ 7
  pub each : HoldsCoverages c r mine state.regions.items

-- with the values that r knew before the event and knows after it, and what it has put, this holds
abbrev pub Knowing :
    ℕ → Event → List ℕ → List ℕ → LandedPuts → (Config → List Event → Type 0) → Type 0
Knowing r e before after landings fact =
    (c : Config) → (mine : List Event) → IsConfig c → IsPossible c r (e ∷ mine)
    → before ≡ known c r mine → after ≡ known c r (e ∷ mine)
    → StandsForLandedPuts c r (e ∷ mine) landings → fact c mine

-- with the values that a replica knows, and what it has put, this holds
abbrev pub KnowingAll :
    List ℕ → LandedPuts → (Config → ℕ → List Event → Type 0) → Type 0
KnowingAll values landings fact =
    (c : Config) → (r : ℕ) → (mine : List Event) → IsConfig c → IsPossible c r mine
    → values ≡ known c r mine → StandsForLandedPuts c r mine landings → fact c r mine

-- what is known of the logs takes one more event
abbrev pub CoveragesTake :
    ℕ → Event → List Coverage → List Coverage → Config → List Event → Type 0
CoveragesTake r e before after c mine =
    HoldsCoverages c r mine before → HoldsCoverages c r (e ∷ mine) after
