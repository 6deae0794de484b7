-- stands for, tells, takes (leadership): the state of leaderships and grants stands for the events
-- of r, tells what has come of them, and takes one more.
use Rattle.std.specs.Prelude.{Bool, List, None, Some, false, is_some, ℕ, ◌<◌, ◌∷◌, ◌≡◌, ◌≤◌}
use Rattle.std.specs.declared.option.Option.{Option}
use Rattle.std.specs.List.{slice_get}
use Rattle.mu_model.specs.declared.config.Config.{Config}
use Rattle.mu_model.specs.declared.event.Answer.{Answer}
use Rattle.mu_model.specs.declared.event.Event.{Event}
use Rattle.mu_model.specs.declared.event.Fence.{Fence}
use Rattle.mu_model.specs.declared.event.Verb.{Verb}
use Rattle.mu_model.specs.Again.{foreign_row}
use Rattle.mu_model.specs.Points.{last_ask}
use Rattle.mu_model.specs.Entering.{any_min_read, last_opened, min_read, min_read_since, open_target}
use Rattle.mu_model.specs.Leaderships.{fence_seen, grant_at_joining, has_begun, is_over, leadership, noted_grant, number_put, proposal_number}
use Rattle.mu_model.specs.Histories.{greatest, newest, or_zero}
use Rattle.mu_model.specs.Parts.{IsPossible}
use Rattle.mu_leadership.specs.Bearing.{reads_fence}
use Rattle.mu_leadership.specs.declared.region_notes.RegionNotes.{RegionNotes}
use Rattle.mu_leadership.specs.declared.leadership.Leadership.{Leadership}

-- the grant of a fence, if there is one
abbrev pub grant_of : Option Fence → Option ℕ
grant_of None = None
grant_of (Some f) = Some f.grant

-- the fence of p that r saw last
abbrev pub last_seen : ℕ → ℕ → List Event → Option Fence
last_seen r p mine = newest (λ e. fence_seen r p e.by e.verb e.answer) mine

-- the grant of p that r saw last
abbrev pub last_grant : ℕ → ℕ → List Event → Option ℕ
last_grant r p mine = grant_of (last_seen r p mine)

-- the minimum of p that r read last, else 0
abbrev pub last_minimum : ℕ → ℕ → List Event → ℕ
last_minimum r p mine = or_zero (newest (λ e. min_read r p e.by e.verb e.answer) mine)

-- the region that r asked last
abbrev pub last_asked : ℕ → List Event → Option ℕ
last_asked r mine = newest (λ e. last_ask r e.by e.verb) mine

-- the greatest minimum that r read in its leadership
abbrev pub greatest_read : ℕ → List Event → ℕ
greatest_read r mine =
    greatest (λ e. any_min_read r e.by e.verb e.answer) (leadership r mine)

-- the greatest number that r put
abbrev pub greatest_put : ℕ → List Event → ℕ
greatest_put r mine = greatest (λ e. number_put r e.by e.verb) mine

-- what r has done at the region p
pub record StandsForRegionNotes (r p : ℕ) (mine : List Event) (notes : RegionNotes) : Type 0 where
  pub noted : notes.noted ≡ noted_grant r p mine
  pub joined : notes.joined ≡ grant_at_joining r p mine
  pub entered : notes.entered ≡ open_target r p mine
  pub opened : notes.opened ≡ last_opened r p mine
  pub minimum : notes.minimum ≡ last_minimum r p mine
  pub seen : notes.seen ≡ last_seen r p mine
  pub has_read : notes.has_read ≡ min_read_since r p mine (last_grant r p mine)
  pub foreign : notes.foreign ≡ foreign_row r p mine

-- the same of every region
abbrev pub StandForRegionNotes : ℕ → List Event → List RegionNotes → Type 0
StandForRegionNotes r mine all =
    (p : ℕ) (notes : RegionNotes) → slice_get all p ≡ Some notes
    → StandsForRegionNotes r p mine notes

-- the state stands for the events of r
pub record StandsForLeadership (r : ℕ) (mine : List Event) (state : Leadership) : Type 0 where
  pub replica : state.replica ≡ r
  pub begun : state.begun ≡ has_begun r mine
  pub asked : state.asked ≡ last_asked r mine
  pub over : state.over ≡ is_over r mine
  pub number : state.number ≡ proposal_number r mine
  pub read : state.greatest_minimum ≡ greatest_read r mine
  pub put : state.greatest_number ≡ greatest_put r mine
  pub notes : StandForRegionNotes r mine state.notes

-- the fence that the verb reads is of one of the first n regions
abbrev pub ReadsWithin : ℕ → Verb → Type 0
ReadsWithin n (Verb.Fence p) = p < n
ReadsWithin n _ = Unit {0}

-- what a state tells: of the events that it stands for
abbrev pub Tells : {A : Type 0} → Leadership → (ℕ → List Event → A) → A → Type 0
Tells state of answer =
    (r : ℕ) → (mine : List Event) → StandsForLeadership r mine state → answer ≡ of r mine

-- what it tells of one of seven regions
abbrev pub TellsOf : {A : Type 0} → Leadership → (ℕ → ℕ → List Event → A) → ℕ → A → Type 0
TellsOf state of p answer =
    (r : ℕ) → (mine : List Event) → p < 7 → StandsForLeadership r mine state
    → answer ≡ of r p mine

-- what it tells among n replicas
abbrev pub TellsAmong :
    {A : Type 0} → Leadership → (Config → ℕ → List Event → A) → ℕ → A → Type 0
TellsAmong state of n answer =
    (c : Config) → (r : ℕ) → (mine : List Event) → n ≡ c.replicas → r < 7
    → StandsForLeadership r mine state → answer ≡ of c r mine

-- a state takes one more event
abbrev pub Takes : ℕ → List Event → Event → Leadership → Leadership → Type 0
Takes r mine e before after =
    StandsForLeadership r mine before → StandsForLeadership r (e ∷ mine) after

-- a state takes any event that is possible for one of at most seven replicas
abbrev pub TakesPossible : ℕ → Event → Leadership → Leadership → Type 0
TakesPossible r e before after =
    (c : Config) → (mine : List Event) → c.replicas ≤ 7 → IsPossible c r (e ∷ mine)
    → Takes r mine e before after

-- the notes on the region p take one more event
abbrev pub TakesAt : ℕ → ℕ → List Event → Event → RegionNotes → RegionNotes → Type 0
TakesAt r p mine e before after =
    StandsForRegionNotes r p mine before → StandsForRegionNotes r p (e ∷ mine) after

-- the notes on all regions take one more event
abbrev pub NotesTake : ℕ → List Event → Event → List RegionNotes → List RegionNotes → Type 0
NotesTake r mine e before after =
    StandForRegionNotes r mine before → StandForRegionNotes r (e ∷ mine) after

-- they take any event that reads no fence
abbrev pub NotesTakeUnfenced : ℕ → Event → List RegionNotes → List RegionNotes → Type 0
NotesTakeUnfenced r e before after =
    (mine : List Event) → reads_fence e.verb ≡ false → NotesTake r mine e before after

-- this holds if r sees the fence at p by the event, which is possible after these; numbered tells
-- whether its leadership has its number
abbrev pub IfSeen : Config → ℕ → ℕ → List Event → Event → Fence → Bool → Type 0 → Type 0
IfSeen c r p mine e fence numbered fact =
    IsPossible c r (e ∷ mine) → e.verb ≡ Verb.Fence p → e.answer ≡ Answer.Seen fence
    → numbered ≡ is_some (proposal_number r mine) → fact

-- what is held of a region adds an event that reads no fence, whichever region it is
abbrev pub AddsUnfenced : {A : Type 0} → (ℕ → List Event → A) → Event → A → A → Type 0
AddsUnfenced of e held now =
    (p : ℕ) → (mine : List Event) → reads_fence e.verb ≡ false → held ≡ of p mine
    → now ≡ of p (e ∷ mine)
