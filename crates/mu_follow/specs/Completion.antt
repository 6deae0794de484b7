-- holds completion: the state stands for the length from which on a log holds every command.
use Rattle.std.specs.Prelude.{Bool, List, Some, false, length, take, true, vec_capacity, ℕ, ◌+◌, ◌<◌, ◌≡◌, ◌≤◌}
use Rattle.std.specs.List.{slice_get}
use Rattle.mu_model.specs.declared.config.Config.{Config}
use Rattle.mu_model.specs.Contents.{IsConfig, StandsForEntry, holds_all, includes, row_count, rows_in}
use Rattle.mu_model.specs.Scores.{least_below}
use Rattle.mu_follow.specs.declared.completion.Completion.{Completion}

-- how many of the values hold every command, or one more than there are
abbrev pub full_of : Config → List ℕ → ℕ
full_of c values = least_below (length values + 1) (λ k. holds_all c (take k values))

-- each of the job's rows has a mark that tells whether it is there
abbrev pub MarksRows : Config → (ℕ → Bool) → List Bool → Type 0
MarksRows c is_there marks = (j : ℕ) → j < row_count c → slice_get marks j ≡ Some (is_there j)

-- all rows below this one are there, and it isn't
pub record IsFirstMissing (c : Config) (is_there : ℕ → Bool) (first : ℕ) : Type 0 where
  pub within : first ≤ row_count c
  pub below : (j : ℕ) → j < first → is_there j ≡ true
  pub missing : first < row_count c → is_there first ≡ false

-- each of the values stands for an entry
abbrev pub AreEntries : Config → List ℕ → Type 0
AreEntries c values = (i v : ℕ) → slice_get values i ≡ Some v → StandsForEntry c v

-- there is room for the mark of one row more
abbrev pub HasRoomForMark : Completion → Type 0
HasRoomForMark state = length state.held.items < vec_capacity state.held

-- the state stands for the values that were counted
pub record HoldsCompletion (c : Config) (values : List ℕ) (state : Completion) : Type 0 where
  pub counted : state.counted ≡ length values
  pub rows : length state.held.items ≡ row_count c
  pub held : MarksRows c (λ j. includes j (rows_in c values)) state.held.items
  pub first : IsFirstMissing c (λ j. includes j (rows_in c values)) state.held_to
  pub full : state.full ≡ full_of c values

-- the first `applied` of the values are counted, of which the first were counted before
abbrev pub CountsTo : Config → List ℕ → ℕ → Completion → Completion → Type 0
CountsTo c values applied before after =
    IsConfig c → length values ≤ 65536 → applied ≤ length values → before.counted ≤ applied
    → HoldsCompletion c (take before.counted values) before
    → HoldsCompletion c (take applied values) after
