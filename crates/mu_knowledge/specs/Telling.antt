-- tells, keeps, takes, gets a row: what a running state tells of the events that it stands for,
-- and what a step of it leaves of that.
use Rattle.std.specs.Prelude.{List, [], length, replicate, take, vec_capacity, ℕ, ◌*◌, ◌++◌, ◌+◌, ◌∷◌, ◌≡◌, ◌≤◌}
use Rattle.std.specs.declared.alloc.Global.{Global}
use Rattle.std.specs.declared.vec.Vec.{Vec}
use Rattle.mu_model.specs.declared.config.Config.{Config}
use Rattle.mu_model.specs.declared.config.Row.{Row}
use Rattle.mu_model.specs.declared.event.Event.{Event}
use Rattle.mu_model.specs.Contents.{IsConfig}
use Rattle.mu_model.specs.Growing.{with_more}
use Rattle.mu_model.specs.Parts.{IsPossible}

-- the answer is this of the events that the state stands for
abbrev pub Tells :
    {S A : Type 0} → (Config → ℕ → List Event → S → Type 0) → S → (Config → ℕ → List Event → A) → A
    → Type 0
Tells stands state of answer =
    (c : Config) → (r : ℕ) → (mine : List Event) → stands c r mine state → answer ≡ of c r mine

-- the state stands for what it stood for
abbrev pub KeepsStanding : {S : Type 0} → (Config → ℕ → List Event → S → Type 0) → S → S → Type 0
KeepsStanding stands before after =
    (c : Config) → (r : ℕ) → (mine : List Event) → stands c r mine before → stands c r mine after

-- it stands for one event more
abbrev pub TakesEvent :
    {S : Type 0} → (Config → ℕ → List Event → S → Type 0) → Config → ℕ → List Event → Event → S → S
    → Type 0
TakesEvent stands c r mine e before after = stands c r mine before → stands c r (e ∷ mine) after

-- it goes over to a configuration with one row more, if there is room
abbrev pub GetsRow :
    {S : Type 0} → (Config → ℕ → List Event → S → Type 0) → (Config → S → Type 0) → Config → S → S
    → Type 0
GetsRow stands has_room config before after =
    (c : Config) → (row : Row) → (r : ℕ) → (mine : List Event) → IsConfig c → IsConfig config
    → config ≡ with_more c (row ∷ []) → IsPossible c r mine → has_room c before
    → stands c r mine before → stands config r mine after

-- a table is cut to the first `rows` rows, and gets the places of one row more
abbrev pub AddsPlaces : {A : Type 0} → ℕ → ℕ → Vec A Global → Vec A Global → A → Type 0
AddsPlaces rows each before after none =
    rows ≤ 1500 → each ≤ 84 → rows * each ≤ length before.items
    → rows * each + each ≤ vec_capacity before
    → after.items ≡ take (rows * each) before.items ++ replicate each none
