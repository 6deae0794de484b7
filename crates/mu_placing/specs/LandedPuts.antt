-- stands for (landed puts): the state of what r has put into logs in its leadership stands for the
-- events of r.
use Rattle.std.specs.Prelude.{Bool, List, None, Some, false, if◌then◌else◌, length, ℕ, ◌&&◌, ◌*◌, ◌+◌, ◌<◌, ◌==◌, ◌≡◌, ◌≤◌}
use Rattle.std.specs.declared.option.Option.{Option}
use Rattle.std.specs.List.{slice_get}
use Rattle.mu_model.specs.declared.config.Config.{Config}
use Rattle.mu_model.specs.declared.event.Answer.{Answer}
use Rattle.mu_model.specs.declared.event.Event.{Event}
use Rattle.mu_model.specs.declared.event.Verb.{Verb}
use Rattle.mu_model.specs.Contents.{row_count}
use Rattle.mu_model.specs.Histories.{newest}
use Rattle.mu_model.specs.Leaderships.{leadership, leaderships}
use Rattle.mu_model.specs.Room.{reserve}
use Rattle.mu_placing.specs.declared.landed_puts.Landing.{Landing}
use Rattle.mu_placing.specs.declared.landed_puts.LandedPuts.{LandedPuts}

-- the region, the position, the number and the value of what the step of r puts
abbrev pub landed_put : ℕ → ℕ → Verb → Answer → Option (ℕ × ℕ × ℕ × ℕ)
landed_put r by (Verb.PutSlot p i b v) Answer.Done = if by == r then Some (p, i, b, v) else None
landed_put r by _ _ = None

-- the entry that the step puts at position i of region p
abbrev pub entry_put : ℕ → ℕ → ℕ → ℕ → Verb → Answer → Option (ℕ × ℕ)
entry_put r p i by (Verb.PutSlot q j b v) Answer.Done =
    if (by == r) && ((q == p) && (j == i)) then Some (b, v) else None
entry_put r p i by _ _ = None

-- the entry that r put last at position i of region p in its leadership
abbrev pub last_landed : ℕ → ℕ → ℕ → List Event → Option (ℕ × ℕ)
last_landed r p i mine = newest (λ e. entry_put r p i e.by e.verb e.answer) (leadership r mine)

-- the entry, if there is one, is (b, v)
abbrev pub is_entry : Option (ℕ × ℕ) → ℕ → ℕ → Bool
is_entry None b v = false
is_entry (Some entry) b v = (entry.0 == b) && (entry.1 == v)

-- the entry that was noted, if it is of the n-th leadership
abbrev pub noted_in : ℕ → Option Landing → Option (ℕ × ℕ)
noted_in n None = None
noted_in n (Some landing) =
    if landing.leadership == n then Some (landing.number, landing.value) else None

-- what was noted, if there is something, is of one of the first n leaderships
abbrev pub IsWithin : ℕ → Option Landing → Type 0
IsWithin n None = Unit {0}
IsWithin n (Some landing) = landing.leadership ≤ n

-- what was noted stands for what r put last at position i of region p
pub record Notes (r p i : ℕ) (mine : List Event) (noted : Option Landing) : Type 0 where
  pub entry : noted_in (leaderships r mine) noted ≡ last_landed r p i mine
  pub within : IsWithin (leaderships r mine) noted

-- the same of every position of every region
abbrev pub NotesEach : ℕ → List Event → List (Option Landing) → Type 0
NotesEach r mine notes =
    (p i : ℕ) (noted : Option Landing) → p < 7 → slice_get notes (i * 7 + p) ≡ Some noted
    → Notes r p i mine noted

-- the state stands for the events of r
pub record StandsForLandedPuts (c : Config) (r : ℕ) (mine : List Event)
    (state : LandedPuts) : Type 0 where
  pub leadership : state.leadership ≡ leaderships r mine
  pub room : length state.notes.items ≡ (row_count c + reserve c + 1) * 7
  pub notes : NotesEach r mine state.notes.items
