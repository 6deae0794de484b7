-- When the rows of a picture under construction are those of its marks, and what a step adds to them.
use Rattle.std.specs.Prelude.{ℕ, ◌≡◌, ◌≢◌, ◌+◌, ◌<◌, ◌≤◌, ◌⊎◌, Bool, true, List, [], is_some, length, min, take}
use Rattle.std.specs.declared.option.Option.{Option}
use Rattle.mu_model.specs.declared.config.Config.{Config}
use Rattle.mu_model.specs.declared.event.Event.{Event}
use Rattle.mu_model.specs.declared.script.Script.{Script}
use Rattle.mu_model.specs.Histories.{history}
use Rattle.mu_picture.specs.Layout.{HaveRows, after_marks, top}
use Rattle.mu_picture.specs.Marks.{EndsInPlace, marks_of, with_mark}
use Rattle.mu_picture.specs.declared.marks.Mark.{Mark}
use Rattle.mu_picture.specs.declared.pictures.Rows.{Rows}

-- the next row goes where the rows of the marks end, which are at most n
pub record HoldsRows (n : ℕ) (rows : Rows) : Type 0 where
  pub cursor : rows.cursor ≡ after_marks (top rows.first) rows.marks.items
  pub placed : HaveRows (top rows.first) rows.marks.items
  pub low : rows.cursor.y ≤ 32559
  pub few : rows.cursor.rows ≤ n
  pub count : length rows.marks.items ≤ n

-- rows that ask for the same steps
pub record AsksAlike (rows others : Rows) : Type 0 where
  pub brief : others.brief ≡ rows.brief
  pub first : others.first ≡ rows.first
  pub asked : others.asked ≡ rows.asked

-- rows of these steps before any was added
pub record IsFresh (short : Bool) (from to : ℕ) (rows : Rows) : Type 0 where
  pub brief : rows.brief ≡ short
  pub first : rows.first ≡ from
  pub asked : rows.asked ≡ to
  pub end : rows.end ≡ from
  pub marks : rows.marks.items ≡ []
  pub held : HoldsRows 0 rows

-- the rows end before the step already, or it isn't asked for; or they end at it, whose mark has no
-- room, or they have it
abbrev pub AddsStep : ℕ → Option Mark → Rows → Rows → Type 0
AddsStep index mark before after =
    ((after ≡ before) × ((before.asked ≤ index) ⊎ (before.end ≢ index)))
    ⊎ (((after ≡ before) × (before.end ≡ index) × (index < before.asked)
    × (32500 < before.cursor.y) × (is_some mark ≡ true))
    ⊎ ((before.end ≡ index) × (index < before.asked) × (after.end ≡ index + 1)
    × (after.marks.items ≡ with_mark before.marks.items mark)))

-- the rows have the marks of those of these events that they ask for, as far as there is room
pub record HoldsSteps (c : Config) (script : Script) (events : List Event)
    (rows : Rows) : Type 0 where
  pub held : HoldsRows (length events) rows
  pub order : rows.first ≤ rows.end
  pub within : rows.end ≤ min rows.asked (length events)
  pub marks :
      rows.marks.items
      ≡ marks_of c script rows.brief rows.first (history (take rows.end events))
  pub ends :
      EndsInPlace c script events rows.brief (min rows.asked (length events)) rows.cursor.y
      rows.end
