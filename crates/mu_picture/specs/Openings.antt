-- opening (of a picture): what holds in each lane before the first step of a picture.
use Rattle.std.specs.Prelude.{ℕ, Bool, zero, suc, false, None, Some, List, [], ◌∷◌, ◌++◌}
use Rattle.mu_model.specs.declared.event.Event.{Event}
use Rattle.mu_model.specs.Histories.{part}
use Rattle.mu_model.specs.declared.config.Config.{Config}
use Rattle.mu_model.specs.declared.script.Script.{Script}
use Rattle.mu_model.specs.Regions.{fence}
use Rattle.mu_model.specs.Scores.{leader}
use Rattle.mu_model.specs.declared.event.Fence.{Fence}
use Rattle.std.specs.declared.option.Option.{Option}
use Rattle.mu_course.specs.Resigning.{is_leading}
use Rattle.mu_picture.specs.Standings.{standing_of}
use Rattle.mu_picture.specs.declared.openings.Opening.{Opening}
use Rattle.mu_picture.specs.declared.standings.Standing.{Standing}

-- what a fence, a lane that stands so, a leadership and scores open with
abbrev pub opening_with : Option Fence → Standing → Bool → ℕ → Opening
opening_with None standing leads named =
    record { owner = None; closing = false; standing = standing; leads = leads; named = named }
opening_with (Some fence) standing leads named =
    record {
      owner = fence.owner;
      closing = fence.closing;
      standing = standing;
      leads = leads;
      named = named;
    }

-- what holds in the lane of r: who owns its region, whether that is closing, how the last step of r
-- left the lane, whether r leads and whom it names
abbrev pub opening_of : Config → Script → ℕ → List Event → Opening
opening_of c script r past =
    opening_with (Some (fence r past)) (standing_of c script r past)
    (is_leading c r (part r past)) (leader c r (part r past))

-- the same of each of the first n lanes, in order
abbrev pub openings_of : Config → Script → ℕ → List Event → List Opening
openings_of c script zero past = []
openings_of c script (suc n) past =
    openings_of c script n past ++ opening_of c script n past ∷ []
