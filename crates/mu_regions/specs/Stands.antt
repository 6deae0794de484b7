-- stands for (regions): the running state holds what the history makes of the regions.
use Rattle.std.specs.Prelude.{Bool, List, Some, length, slice_index, vec_capacity, ℕ, ◌%◌, ◌*◌, ◌+◌, ◌/◌, ◌<◌, ◌≡◌, ◌≤◌}
use Rattle.std.specs.declared.option.Option.{Option}
use Rattle.std.specs.List.{slice_get}
use Rattle.mu_model.specs.declared.config.Config.{Config}
use Rattle.mu_model.specs.declared.event.Event.{Event}
use Rattle.mu_model.specs.Answers.{drained}
use Rattle.mu_model.specs.Contents.{row_count}
use Rattle.mu_model.specs.Leaderships.{noted_grant}
use Rattle.mu_model.specs.Regions.{asks, beats, fence, region_fuo, region_head, region_log, region_min, row_word}
use Rattle.mu_model.specs.Room.{reserve}
use Rattle.mu_regions.specs.declared.region.Region.{Region}
use Rattle.mu_regions.specs.declared.regions.Regions.{Regions}

-- how often each replica asked p
abbrev pub CountsAsks : ℕ → List Event → List ℕ → Type 0
CountsAsks p past counts = (w : ℕ) → w < 7 → slice_index counts w ≡ asks w p past

-- the grant of p that each replica has noted
abbrev pub NotesGrants : ℕ → List Event → List (Option ℕ) → Type 0
NotesGrants p past noted = (r : ℕ) → r < 7 → slice_get noted r ≡ Some (noted_grant r p past)

-- whether p was drained since the last `Enter` of each replica there
abbrev pub MarksDrains : ℕ → List Event → List Bool → Type 0
MarksDrains p past marks = (r : ℕ) → r < 7 → slice_get marks r ≡ Some (drained r p past)

-- the words of the rows of p, in the order of the rows
abbrev pub HoldsRows : Config → ℕ → List Event → List ℕ → Type 0
HoldsRows c p past words =
    (v k : ℕ) → v / 4096 ≡ p → v % 4096 < row_count c → k < 12
    → slice_get words (v % 4096 * 12 + k) ≡ Some (row_word v k past)

-- the state of the region p, and of the rows of its replica, stands for the history
pub record Holds (c : Config) (p : ℕ) (past : List Event) (region : Region) : Type 0 where
  pub id : region.id ≡ p
  pub fence : region.fence ≡ fence p past
  pub minimum : region.minimum ≡ region_min p past
  pub log : region.log.items ≡ region_log p past
  pub log_room : row_count c + reserve c < vec_capacity region.log
  pub fuo : region.fuo ≡ region_fuo p past
  pub head : region.head ≡ region_head p past
  pub beats : region.beats ≡ beats p past
  pub asks : CountsAsks p past region.asks
  pub noted : NotesGrants p past region.noted
  pub drained : MarksDrains p past region.drained
  pub rows : HoldsRows c p past region.words.items
  pub words : length region.words.items ≡ row_count c * 12

-- each region of the list, counted from 0, stands for the history
abbrev pub HoldsEach : Config → List Event → List Region → Type 0
HoldsEach c past regions =
    (p : ℕ) (region : Region) → slice_get regions p ≡ Some region → Holds c p past region

-- the state stands for the history: there are as many regions as replicas, and each does
pub record Stands (c : Config) (past : List Event) (state : Regions) : Type 0 where
  pub ring : state.ring ≡ c.ring
  pub few : c.replicas ≤ 7
  pub count : length state.regions.items ≡ c.replicas
  pub each : HoldsEach c past state.regions.items
