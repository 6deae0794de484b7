-- one picture, going on: that the steps that are asked for have one picture, and how it goes on in the next.
use Rattle.std.specs.Prelude.{ℕ, ◌≡◌, ◌<◌, Bool, List, [], ◌∷◌, ◌++◌, take}
use Rattle.mu_model.specs.declared.config.Config.{Config}
use Rattle.mu_model.specs.declared.event.Event.{Event}
use Rattle.mu_model.specs.declared.script.Script.{Script}
use Rattle.mu_model.specs.Histories.{history}
use Rattle.mu_picture.specs.Marks.{IsPictureOf, marks_of}
use Rattle.mu_picture.specs.declared.marks.Mark.{Mark}
use Rattle.mu_picture.specs.declared.pictures.Picture.{Picture}

-- two pictures show the same
pub record ShowTheSame (one other : Picture) : Type 0 where
  pub brief : one.brief ≡ other.brief
  pub first : one.first ≡ other.first
  pub asked : one.asked ≡ other.asked
  pub end : one.end ≡ other.end
  pub openings : one.openings.items ≡ other.openings.items
  pub marks : one.marks.items ≡ other.marks.items

-- pictures of the same steps of a run show the same: also where a page ends is settled
abbrev pub PicturesAreOne : Type 0
PicturesAreOne =
    (c : Config) (script : Script) (events : List Event) (short : Bool) (from last : ℕ)
    (one other : Picture) → IsPictureOf c script events short from last one
    → IsPictureOf c script events short from last other → ShowTheSame one other

-- the first of these marks is that of this step
abbrev pub BeginWith : ℕ → List Mark → Type 0
BeginWith step [] = ⊥
BeginWith step (mark ∷ marks) = mark.step ≡ step

-- a picture begins where one before it ends, with a mark, and the two have each mark once: those of
-- one picture up to its end
pub record GoesOnFrom (c : Config) (script : Script) (events : List Event) (short : Bool)
    (one next : Picture) : Type 0 where
  pub begins : BeginWith one.end next.marks.items
  pub marks :
      one.marks.items ++ next.marks.items
      ≡ marks_of c script short one.first (history (take next.end events))

-- if not all steps that are asked for have room, the rest of them is asked for from the end on: that
-- picture goes on
abbrev pub PicturesGoOn : Type 0
PicturesGoOn =
    (c : Config) (script : Script) (events : List Event) (short : Bool) (from last : ℕ)
    (one next : Picture) → IsPictureOf c script events short from last one
    → one.end < one.asked → IsPictureOf c script events short one.end last next
    → GoesOnFrom c script events short one next
