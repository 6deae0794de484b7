-- Which marks a picture has.
use Rattle.std.specs.Prelude.{ℕ, ◌≡◌, ◌<◌, ◌≤◌, ◌⊎◌, ◌+◌, ◌-◌, ◌||◌, ◌==◌, Bool, true, false, not, if◌then◌else◌, is_some, nat_le, nat_lt, min, None, Some, List, [], ◌∷◌, ◌++◌, length, take}
use Rattle.std.specs.List.{slice_get}
use Rattle.std.specs.declared.option.Option.{Option}
use Rattle.mu_model.specs.declared.config.Config.{Config}
use Rattle.mu_model.specs.declared.event.Event.{Event}
use Rattle.mu_model.specs.declared.script.Script.{Script}
use Rattle.mu_model.specs.Histories.{history, part}
use Rattle.mu_model.specs.Scores.{leader}
use Rattle.mu_outcome.specs.declared.fault.Broken.{Broken}
use Rattle.mu_picture.specs.Layout.{HaveRows, after_marks, top}
use Rattle.mu_picture.specs.Openings.{openings_of}
use Rattle.mu_course.specs.Resigning.{is_leading}
use Rattle.mu_picture.specs.Standings.{deed_after, halt_by, resumed_with, standing_of}
use Rattle.mu_picture.specs.declared.deeds.Deed.{Deed}
use Rattle.mu_course.specs.declared.halts.Halt.{Halt}
use Rattle.mu_picture.specs.declared.marks.Mark.{Mark}
use Rattle.mu_picture.specs.declared.pictures.Picture.{Picture}
use Rattle.mu_picture.specs.declared.standings.Resumed.{Resumed}

-- the mark of these parts; if none is there, there is no mark
abbrev pub made_of : ℕ → Event → Option Resumed → Option Deed → Option Halt → Option Mark
made_of step e None None None = None
made_of step e resumed deed halt =
    Some (record { step = step; event = e; resumed = resumed; deed = deed; halt = halt })

-- what holds of the replica of the event before it, if it goes on after a pause or an end
abbrev pub resumed_by : Config → Script → List Event → Event → Option Resumed
resumed_by c script past e =
    resumed_with (standing_of c script e.by past) (is_leading c e.by (part e.by past))
    (leader c e.by (part e.by past))

-- the mark of an event after the history: in the row of its index and the lane of its replica
abbrev pub mark_of : Config → Script → List Event → Event → Option Mark
mark_of c script past e =
    made_of (length past) e (resumed_by c script past e) (deed_after c past e)
    (halt_by c script past e)

-- what a step does is drawn in brief: asks, grants, commits and ends of leaderships, and what
-- changes whom a replica names: one above q in place of q that failed, or q that is alive again
abbrev pub is_chief : Option Deed → Bool
is_chief (Some (Deed.Ask p)) = true
is_chief (Some (Deed.Grant w granted)) = true
is_chief (Some (Deed.PutMin p b landed)) = not landed
is_chief (Some (Deed.Put p i landed)) = not landed
is_chief (Some (Deed.Commit p i v)) = true
is_chief (Some (Deed.Barred p)) = true
is_chief (Some (Deed.Deposed p)) = true
is_chief (Some (Deed.Outbid p)) = true
is_chief (Some (Deed.Resign q)) = true
is_chief (Some (Deed.Outrun p i)) = true
is_chief (Some (Deed.Fails q named)) = nat_lt q named
is_chief (Some (Deed.Trusts q named)) = q == named
is_chief deed = false

-- the mark is kept, in brief or not
abbrev pub is_kept : Bool → Mark → Bool
is_kept brief mark =
    not brief || (is_some mark.resumed || (is_chief mark.deed || is_some mark.halt))

-- a mark, if it is kept
abbrev pub kept : Bool → Option Mark → Option Mark
kept brief None = None
kept brief (Some mark) = if is_kept brief mark then Some mark else None

-- the marks, and one more if there is one
abbrev pub with_mark : List Mark → Option Mark → List Mark
with_mark marks None = marks
with_mark marks (Some mark) = marks ++ mark ∷ []

-- the marks of a history from the step `first` on, in brief or not: one for each drawn event, in
-- order
abbrev pub marks_of : Config → Script → Bool → ℕ → List Event → List Mark
marks_of c script brief first [] = []
marks_of c script brief first (e ∷ past) =
    if nat_le first (length past)
    then with_mark (marks_of c script brief first past) (kept brief (mark_of c script past e))
    else marks_of c script brief first past

-- how many steps from `at` on, and before `end`, have no mark: those of the stretches between
abbrev pub hidden_from : ℕ → ℕ → List Mark → ℕ
hidden_from end at [] = end - at
hidden_from end at (mark ∷ marks) = (mark.step - at) + hidden_from end (mark.step + 1) marks

-- the step after the last one that is asked for
abbrev pub end_of : List Event → ℕ → ℕ
end_of events last = min (last + 1) (length events)

-- where the row after the last one of a picture would go
abbrev pub lowest : Picture → ℕ
lowest picture = (after_marks (top picture.first) picture.marks.items).y

-- the events before the one that breaks a list, or all
abbrev pub legal_front : List Event → Option Broken → List Event
legal_front events None = events
legal_front events (Some broken) = take broken.index events

-- a step of a run has a mark, in brief or not
pub record HasMark (c : Config) (script : Script) (events : List Event) (brief : Bool)
    (step : ℕ) : Type 0 where
  pub event : Event
  pub there : slice_get events step ≡ Some event
  pub drawn :
      is_some (kept brief (mark_of c script (history (take step events)) event)) ≡ true

-- a picture ends with the steps that are asked for, or right before the first mark that has no row
-- any more, since the row would go at y: there it goes on
abbrev pub EndsInPlace : Config → Script → List Event → Bool → ℕ → ℕ → ℕ → Type 0
EndsInPlace c script events brief asked y end =
    (end ≡ asked) ⊎ ((32500 < y) × HasMark c script events brief end)

-- the picture of the steps `from` one to the `last` of a run, in brief or not, if they are
-- there: of all of them, or of those before the first mark that has no row
pub record IsPictureOf (c : Config) (script : Script) (events : List Event) (short : Bool)
    (from last : ℕ) (picture : Picture) : Type 0 where
  pub brief : picture.brief ≡ short
  pub asked : picture.asked ≡ end_of events last
  pub first : picture.first ≡ min from (end_of events last)
  pub order : picture.first ≤ picture.end
  pub end : picture.end ≤ picture.asked
  pub openings :
      picture.openings.items
      ≡ openings_of c script c.replicas (history (take picture.first events))
  pub marks :
      picture.marks.items
      ≡ marks_of c script short picture.first (history (take picture.end events))
  pub rows : HaveRows (top picture.first) picture.marks.items
  pub ends : EndsInPlace c script events short picture.asked (lowest picture) picture.end
