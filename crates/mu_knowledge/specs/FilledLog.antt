-- stands for (filled log): the state of which positions of the log of a region are known to be
-- filled stands for the events of r.
use Rattle.std.specs.Prelude.{Bool, List, None, Some, false, if◌then◌else◌, length, nat_lt, true, vec_capacity, ℕ, ◌&&◌, ◌+◌, ◌<◌, ◌==◌, ◌||◌, ◌≡◌}
use Rattle.std.specs.declared.option.Option.{Option}
use Rattle.std.specs.List.{slice_get}
use Rattle.mu_model.specs.declared.config.Config.{Config}
use Rattle.mu_model.specs.declared.event.Answer.{Answer}
use Rattle.mu_model.specs.declared.event.Event.{Event}
use Rattle.mu_model.specs.declared.event.Verb.{Verb}
use Rattle.mu_model.specs.Contents.{row_count}
use Rattle.mu_model.specs.Histories.{has}
use Rattle.mu_model.specs.Knowledge.{is_filled, is_value, known, lands_entry}
use Rattle.mu_model.specs.Leaderships.{leadership}
use Rattle.mu_model.specs.Room.{reserve}
use Rattle.mu_knowledge.specs.KnownLog.{is_set}
use Rattle.mu_knowledge.specs.declared.filled_log.FilledLog.{FilledLog}

-- j is below the number, if there is one
abbrev pub is_below : Option ℕ → ℕ → Bool
is_below None j = false
is_below (Some x) j = nat_lt j x

-- j is the position, if there is one
abbrev pub is_at : Option ℕ → ℕ → Bool
is_at None j = false
is_at (Some i) j = i == j

-- the position of region p that a put or a look of r shows to be filled
abbrev pub filled_spot : Config → ℕ → ℕ → List Event → ℕ → Verb → Answer → List Event → Option ℕ
filled_spot c r p past by (Verb.PutSlot q i b v) Answer.Done now =
    if (by == r)
    && (((q == p) && is_value (slice_get (known c r past) i) v)
    || ((length (known c r past) == i)
    && ((length (known c r now) == i + 1) && has (lands_entry r p i b v) (leadership r now))))
    then Some i
    else None
filled_spot c r p past by (Verb.Look q i) (Answer.Entry b v) now =
    if (by == r) &&
    ((p == r)
    && ((q == r) && ((length (known c r past) == i) && (length (known c r now) == i + 1))))
    then Some i else None
filled_spot c r p past by _ _ now = None

-- the state stands for what r knows to be filled of the log of region p
pub record StandsForFilledLog (c : Config) (r p : ℕ) (mine : List Event)
    (log : FilledLog) : Type 0 where
  pub room : length log.filled.items ≡ row_count c + reserve c + 1
  pub filled :
      (j : ℕ)
      → is_filled c r p mine j ≡ (nat_lt j log.filled_to || is_set (slice_get log.filled.items j))
  pub next : is_set (slice_get log.filled.items log.filled_to) ≡ false

-- there is room for one position more
abbrev pub HasRoomForPosition : FilledLog → Type 0
HasRoomForPosition log = length log.filled.items < vec_capacity log.filled

-- the positions of region p below n are known to be filled, and n is not
pub record IsFilledTo (c : Config) (r p : ℕ) (mine : List Event) (n : ℕ) : Type 0 where
  pub below : (j : ℕ) → j < n → is_filled c r p mine j ≡ true
  pub next : is_filled c r p mine n ≡ false
