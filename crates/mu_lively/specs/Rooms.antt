-- rooms: a leader's counts have the room that its place needs: the place as its weight sees it,
-- what holds of the counts there, and what a step must leave of the tables.
use Rattle.std.specs.Prelude.{List, false, get_or, suc, true, zero, ℕ, ◌+◌, ◌-◌, ◌≡◌, ◌≢◌, ◌≤◌, ◌⊎◌}
use Rattle.mu_model.specs.declared.config.Config.{Config}
use Rattle.mu_model.specs.declared.event.Event.{Event}
use Rattle.mu_model.specs.Bounds.{members}
use Rattle.mu_model.specs.Diligence.{was_unnamed}
use Rattle.mu_model.specs.Leaderships.{is_member, is_over}
use Rattle.mu_model.specs.Steps.{has_min, leads}
use Rattle.mu_pace.specs.Away.{IsAway, IsFresh}
use Rattle.mu_pace.specs.Members.{members_below, members_from}
use Rattle.mu_pace.specs.Placed.{IsPlacedAt}
use Rattle.mu_pace.specs.Weights.{Bringing, Lag, Sizes, Stage}
use Rattle.mu_lead.specs.declared.place.Place.{Place}
use Rattle.mu_lead.specs.declared.place.Then.{Then}
use Rattle.mu_lead.specs.Listing.{Tables}

-- how many replicas and members there are, and how many rows a batch has at most
abbrev pub sizes_of : Config → ℕ → List Event → Sizes
sizes_of c r mine = record { replicas = c.replicas; width = c.width; members = members c r mine }

-- how many words of the given number of rows from j on aren't written
abbrev pub words_left : List ℕ → ℕ → ℕ → ℕ
words_left written j zero = 0
words_left written j (suc rows) = (12 - get_or written j 12) + words_left written (j + 1) rows

-- which members are brought up while p is
abbrev pub lag_of : Config → ℕ → List Event → ℕ → Then → Lag
lag_of c r mine p Then.Late = Lag.Behind
lag_of c r mine p Then.Position = Lag.Position (members_below c r p mine)
lag_of c r mine p Then.Joined = Lag.Joined p

-- the place as its weight sees it: with the region in turn, or with the members that are still in
-- turn
abbrev pub stage_of : Config → ℕ → List Event → List ℕ → Place → Stage
stage_of c r mine written (Place.ReadMin p) = Stage.ReadMin p
stage_of c r mine written (Place.EnterMin p) = Stage.EnterMin
stage_of c r mine written (Place.PutMin p) = Stage.PutMin
stage_of c r mine written (Place.ReadFuo p source) = Stage.ReadFuo (members_from c r p mine)
stage_of c r mine written (Place.Learn p) = Stage.Learn
stage_of c r mine written (Place.WidenBehind p then) = Stage.Bring (lag_of c r mine p then)
    Bringing.Widen
stage_of c r mine written (Place.LookBehind p then) = Stage.Bring (lag_of c r mine p then)
    Bringing.Look
stage_of c r mine written (Place.EnterBehind p then) = Stage.Bring (lag_of c r mine p then)
    Bringing.Enter
stage_of c r mine written (Place.PutBehind p then) = Stage.Bring (lag_of c r mine p then)
    Bringing.Put
stage_of c r mine written (Place.RaiseBehind p then) = Stage.Bring (lag_of c r mine p then)
    Bringing.Raise
stage_of c r mine written (Place.FenceBehind p then) = Stage.Bring (lag_of c r mine p then)
    Bringing.Fence
stage_of c r mine written (Place.LateFence p) = Stage.LateFence p
stage_of c r mine written (Place.LateMin p) = Stage.LateMin p
stage_of c r mine written (Place.LateFuo p) = Stage.LateFuo p
stage_of c r mine written (Place.LateEnter p) = Stage.LateEnter p
stage_of c r mine written (Place.LatePut p) = Stage.LatePut p
stage_of c r mine written (Place.ReadHead q candidate) = Stage.ReadHead q
stage_of c r mine written (Place.Look p i candidate best) = Stage.LookAt (members_from c r p mine)
stage_of c r mine written (Place.Write j last offer) = Stage.Write
    (words_left written j (last + 1 - j))
stage_of c r mine written (Place.Enter p offer) = Stage.EnterAt (members_from c r p mine)
stage_of c r mine written (Place.Put p offer) = Stage.PutAt (members_from c r p mine)
stage_of c r mine written (Place.Raise p) = Stage.RaiseAt (members_from c r p mine)
stage_of c r mine written place = Stage.Rest

-- a minimum was read, and each count has the room that the place weighs
pub record IsLed (c : Config) (r : ℕ) (mine : List Event) (stage : Stage) : Type 0 where
  pub read : has_min r mine ≡ true
  pub placed : IsPlacedAt c r (sizes_of c r mine) stage mine

-- the same of a place of the listing
abbrev pub IsPlaced : Config → ℕ → List Event → List ℕ → Place → Type 0
IsPlaced c r mine written place = IsLed c r mine (stage_of c r mine written place)

-- no leadership is under way, or r was unnamed in it: only late followers are waited for, and a
-- background look may count
pub record IsOut (c : Config) (r : ℕ) (mine : List Event) : Type 0 where
  pub left : (leads r mine ≡ false) ⊎ (was_unnamed c r mine ≡ true)
  pub away : IsAway c r mine

-- the leadership is over
pub record IsEnded (c : Config) (r : ℕ) (mine : List Event) : Type 0 where
  pub over : is_over r mine ≡ true
  pub away : IsAway c r mine

-- a leadership waits for its first `Min`
pub record IsWaiting (c : Config) (r : ℕ) (mine : List Event) : Type 0 where
  pub unread : has_min r mine ≡ false
  pub fresh : IsFresh c r mine

-- minima are read
pub record IsReading (c : Config) (r : ℕ) (mine : List Event) (written : List ℕ) (p : ℕ) : Type 0
  where
    pub waits : has_min r mine ≡ false → IsFresh c r mine
    pub goes_on : has_min r mine ≡ true → IsPlaced c r mine written (Place.ReadMin p)

-- the number is put, and no region from p on is a member
pub record IsNumbering (c : Config) (r : ℕ) (mine : List Event) (p : ℕ) (stage : Stage) : Type 0
  where
    pub left : (q : ℕ) → p ≤ q → is_member r q mine ≡ false
    pub led : IsLed c r mine stage

-- what holds of the counts at a place
abbrev pub RoomsAt : Config → ℕ → List Event → List ℕ → Place → Type 0
RoomsAt c r mine written (Place.Ask p) = (p ≡ 0 → IsOut c r mine) × (p ≢ 0 → IsWaiting c r mine)
RoomsAt c r mine written (Place.Confirm round p) = IsWaiting c r mine
RoomsAt c r mine written (Place.ReadMin p) = IsReading c r mine written p
RoomsAt c r mine written (Place.EnterMin p) = IsNumbering c r mine p Stage.EnterMin
RoomsAt c r mine written (Place.PutMin p) = IsNumbering c r mine p Stage.PutMin
RoomsAt c r mine written (Place.Evidence p) = IsEnded c r mine
RoomsAt c r mine written Place.Outrun = IsAway c r mine
RoomsAt c r mine written place = IsPlaced c r mine written place

-- what a step from a place leaves of the tables, as far as the counts depend on it: of the words of
-- the rows that are written one less is left
abbrev pub KeepsTables : Tables → Tables → Place → Type 0
KeepsTables old new (Place.RaiseBehind p then) = new.up ≡ old.up
KeepsTables old new (Place.Look p i candidate best) = new.up ≡ old.up
KeepsTables old new (Place.Write j last offer) =
    words_left old.written j (last + 1 - j) ≡ words_left new.written j (last + 1 - j) + 1
KeepsTables old new place = Unit {0}
