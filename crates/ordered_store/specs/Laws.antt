-- laws of moments: a later moment is one for good, and a reply is one for good; a command that is
-- submitted after a reply was told stands behind it.
use Rattle.std.specs.Prelude.{ℕ, ◌<◌, ◌≤◌, length}
use Rattle.kv_store.specs.declared.store.Reply.{Reply}
use Rattle.ordered_store.specs.Moments.{GoesOn, IsAnswer, Moment}

-- moments go on
pub record MomentsGoOn : Type 0 where
  pub same : (moment : Moment) → GoesOn moment moment
  pub along :
      (before between after : Moment) → GoesOn before between → GoesOn between after
      → GoesOn before after

-- a reply is one at each later moment
abbrev pub AnswersStay : Type 0
AnswersStay =
    (before after : Moment) → GoesOn before after → (row : ℕ) (reply : Reply)
    → IsAnswer before row reply → IsAnswer after row reply

-- the command of a row that was taken only after a reply was told stands behind that reply's
abbrev pub AnswersComeInTime : Type 0
AnswersComeInTime =
    (before after : Moment) → GoesOn before after → (sooner newer : ℕ) (told reply : Reply)
    → (first : IsAnswer before sooner told) (second : IsAnswer after newer reply)
    → length before.submitted ≤ newer → first.place < second.place
