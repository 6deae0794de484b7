-- What an entry, a put into a slot or a read of a fence changes of a leadership.
use Rattle.std.proofs.Common.{Bool, List, Some, false, refl, true, ℕ, ◌∷◌, ◌≡◌, ◌||◌}
use Rattle.std.proofs.Math.Bool.{or_comm}
use Rattle.mu_model.specs.declared.event.Answer.{Answer}
use Rattle.mu_model.specs.declared.event.Event.{Event}
use Rattle.mu_model.specs.declared.event.Verb.{Verb}
use Rattle.mu_model.specs.Leaderships.{ends_leadership, is_over}
use Rattle.mu_model.proofs.Basics.{none_some}
use Rattle.mu_model.specs.Histories.{event_by}
use Rattle.mu_leadership.specs.Bearing.{region_entered, region_named}
use Rattle.mu_leadership.specs.Leadership.{StandForRegionNotes, Takes}
use Rattle.mu_leadership.specs.declared.leadership.Leadership.{Leadership}
use Rattle.mu_leadership.specs.declared.region_notes.RegionNotes.{RegionNotes}

-- an entry or a put into a slot is a step at its region
pub entered_named : (p : ℕ) (verb : Verb) → region_entered verb ≡ Some p → region_named verb ≡ Some p
entered_named p (Verb.Enter q t) names = names
entered_named p (Verb.PutSlot q i b v) names = names
entered_named p verb names = absurd (none_some p names)

-- the verb changes nothing but the notes, and whether the leadership is over
abbrev pub ends_at_most : Verb → Bool
ends_at_most (Verb.Enter q t) = true
ends_at_most (Verb.PutSlot q i b v) = true
ends_at_most (Verb.Fence q) = true
ends_at_most verb = false

-- what was over stays so, and what ends is over
over_then : (held was ends now : Bool) → held ≡ was → ends ≡ now → (held || ends) ≡ (now || was)
over_then held was ends now same is = rw (same, is, or_comm was now) refl

-- the state with the notes after such a step, over if it was or if the step ends it
abbrev pub ended_state : Leadership → Bool → List RegionNotes → Leadership
ended_state state ends notes = record { replica = state.replica; begun = state.begun; asked = state.asked; over = state.over || ends; number = state.number; greatest_minimum = state.greatest_minimum; greatest_number = state.greatest_number; notes = notes }

-- it stands for the events with the step
ended_by : (r by : ℕ) (verb : Verb) (answer : Answer) (mine : List Event) (state : Leadership) (ends : Bool) (notes : List RegionNotes) → ends_at_most verb ≡ true → ends ≡ ends_leadership r mine by verb answer
    → StandForRegionNotes r (event_by by verb answer ∷ mine) notes → Takes r mine (event_by by verb answer) state (ended_state state ends notes)
ended_by r by (Verb.Enter q t) answer mine state ends notes at is each held =
    record { replica = held.replica; begun = held.begun; asked = held.asked; over = over_then state.over (is_over r mine) ends _ held.over is; number = held.number; read = held.read; put = held.put; notes = each }
ended_by r by (Verb.PutSlot q i b v) answer mine state ends notes at is each held =
    record { replica = held.replica; begun = held.begun; asked = held.asked; over = over_then state.over (is_over r mine) ends _ held.over is; number = held.number; read = held.read; put = held.put; notes = each }
ended_by r by (Verb.Fence q) answer mine state ends notes at is each held =
    record { replica = held.replica; begun = held.begun; asked = held.asked; over = over_then state.over (is_over r mine) ends _ held.over is; number = held.number; read = held.read; put = held.put; notes = each }
ended_by r by verb answer mine state ends notes at is each held = cc

pub ended_stands : (r : ℕ) (e : Event) (mine : List Event) (state : Leadership) (ends : Bool) (notes : List RegionNotes) → ends_at_most e.verb ≡ true → ends ≡ ends_leadership r mine e.by e.verb e.answer → StandForRegionNotes r (e ∷ mine) notes → Takes r mine e state (ended_state state ends notes)
ended_stands r e mine state ends notes at is each held = ended_by r e.by e.verb e.answer mine state ends notes at is each held
