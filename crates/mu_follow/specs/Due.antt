-- due of a replayer: the verb that a replayer has due at each of its places.
use Rattle.std.specs.Prelude.{Bool, List, None, Some, [], false, if◌then◌else◌, length, min, nat_lt, not, true, ℕ, ◌%◌, ◌*◌, ◌+◌, ◌-◌, ◌/◌, ◌==◌, ◌∷◌, ◌≡◌, ◌≤◌}
use Rattle.std.specs.declared.option.Option.{Option}
use Rattle.std.specs.List.{slice_get}
use Rattle.mu_model.specs.declared.config.Config.{Config}
use Rattle.mu_model.specs.declared.event.Event.{Event}
use Rattle.mu_model.specs.declared.event.Verb.{Verb}
use Rattle.mu_model.specs.Contents.{is_batch, rest_of, row_count}
use Rattle.mu_model.specs.Histories.{greatest}
use Rattle.mu_model.specs.Knowledge.{applied, has_row, is_filled, is_known_decided, known}
use Rattle.mu_model.specs.Placing.{fuo_read_or_raised}
use Rattle.mu_model.specs.Regions.{region_head}
use Rattle.mu_model.specs.Room.{reserve}
use Rattle.mu_model.specs.Scores.{least_below}
use Rattle.mu_follow.specs.declared.progress.Progress.{Progress}

-- the row whose words are being read, after the verb
abbrev pub row_read : Verb → Option ℕ → Option ℕ
row_read (Verb.ReadRow v k) old = if nat_lt k 11 then Some v else None
row_read _ old = old

-- the payload number of the row whose words are being read
abbrev pub row_under_way : List Event → Option ℕ
row_under_way [] = None
row_under_way (e ∷ mine) = row_read e.verb (row_under_way mine)

-- the greatest FUO of its own region that r read or raised
abbrev pub own_fuo : ℕ → List Event → ℕ
own_fuo r mine = greatest (λ e. fuo_read_or_raised r r e.by e.verb e.answer) mine

-- what is remembered stands for the events, and no more was handed on than is applied
pub record HoldsProgress (c : Config) (r : ℕ) (mine : List Event)
    (progress : Progress) : Type 0 where
  pub fuo : progress.fuo ≡ own_fuo r mine
  pub row : progress.row ≡ row_under_way mine
  pub handed : progress.handed ≤ length (applied c r mine)

-- a look at the replica's own log, one position after the next
abbrev pub ahead_due : Config → ℕ → List Event → Option Verb
ahead_due c r mine =
    if nat_lt (length (known c r mine) + 1) (row_count c + reserve c)
    then Some (Verb.Look r (length (known c r mine) + 1)) else None

-- a look at the next position of the replica's own log, if it is decided
abbrev pub next_due : Config → ℕ → List Event → Option Verb
next_due c r mine =
    if is_known_decided r mine r (length (known c r mine))
    then Some (Verb.Look r (length (known c r mine))) else None

-- the first three places
abbrev pub look_due : Config → ℕ → List Event → ℕ → Option Verb
look_due c r mine place =
    if place == 0 then Some (Verb.Fuo r) else if place == 1 then ahead_due c r mine
    else next_due c r mine

-- how many rows of the batch r has before the first that it has not
abbrev pub rows_had : Config → ℕ → List Event → ℕ → ℕ
rows_had c r mine v = least_below (rest_of c (v % 4096) + 1) (λ t. not (has_row r (v + t) mine))

-- the first word of the first row of the entry that r has not
abbrev pub first_word_of : Config → ℕ → List Event → Option ℕ → Option Verb
first_word_of c r mine None = None
first_word_of c r mine (Some v) =
    if is_batch c v
    then (if nat_lt (rows_had c r mine v) (rest_of c (v % 4096) + 1)
    then Some (Verb.ReadRow (v + rows_had c r mine v) 0) else None)
    else None

-- the word k of the row, if there is one
abbrev pub next_word_of : ℕ → Option ℕ → Option Verb
next_word_of k None = None
next_word_of k (Some v) = Some (Verb.ReadRow v k)

-- the next twelve places, from the first entry that was not handed on
abbrev pub word_due : Config → ℕ → List Event → ℕ → ℕ → Option Verb
word_due c r mine handed k =
    if k == 0 then first_word_of c r mine (slice_get (known c r mine) handed)
    else next_word_of k (row_under_way mine)

-- up to which position the replica's own log is filled and known
abbrev pub filled_known : Config → ℕ → List Event → ℕ
filled_known c r mine = least_below (length (known c r mine)) (λ j. not (is_filled c r r mine j))

-- a raise of its own FUO to there
abbrev pub fuo_due : Config → ℕ → List Event → Option Verb
fuo_due c r mine =
    if nat_lt (own_fuo r mine) (filled_known c r mine)
    then Some (Verb.RaiseFuo r (filled_known c r mine)) else None

-- a raise of its own head to what is handed on and decided
abbrev pub head_due : ℕ → List Event → ℕ → Option Verb
head_due r mine handed =
    if nat_lt (region_head r mine) (min handed (own_fuo r mine))
    then Some (Verb.RaiseHead (min handed (own_fuo r mine))) else None

-- the other replica with this place among them, counted from 0
abbrev pub other_of : ℕ → ℕ → ℕ
other_of r place = if nat_lt place r then place else place + 1

-- a read of another head, one in each cycle
abbrev pub other_head_due : Config → ℕ → List Event → Option Verb
other_head_due c r mine =
    if c.replicas == 1 then None
    else Some (Verb.Head (other_of r (length mine / 2 / (2 * c.replicas + 22) % (c.replicas - 1))))

-- the last three places
abbrev pub raise_due : Config → ℕ → List Event → ℕ → ℕ → Option Verb
raise_due c r mine handed place =
    if place == 15 then fuo_due c r mine else if place == 16 then head_due r mine handed
    else if place == 17 then other_head_due c r mine else None

-- the verb of a place of the replayer, if one is due: the first three are left to the leader while
-- r leads
abbrev pub replay_due : Config → ℕ → List Event → ℕ → ℕ → Bool → Option Verb
replay_due c r mine handed place leading =
    if nat_lt place 3 then (if leading then None else look_due c r mine place)
    else if nat_lt place 15 then word_due c r mine handed (place - 3)
    else raise_due c r mine handed place

-- a verb of the replayer: while r leads no FUO is read and no log looked at, so that what is known
-- stays
abbrev pub is_replay : Bool → Verb → Bool
is_replay leading (Verb.Fuo p) = not leading
is_replay leading (Verb.Look p i) = not leading
is_replay leading (Verb.ReadRow v k) = true
is_replay leading (Verb.RaiseFuo p u) = true
is_replay leading (Verb.RaiseHead h) = true
is_replay leading (Verb.Head q) = true
is_replay leading _ = false

abbrev pub IsReplay : Bool → Verb → Type 0
IsReplay leading verb = is_replay leading verb ≡ true
