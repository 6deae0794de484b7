-- Where rows go.
use Rattle.std.proofs.Common.{◌≡◌, ◌≤◌, List, [], ◌∷◌, ◌++◌, refl}
use Rattle.mu_picture.specs.Layout.{HaveRows, after, after_marks}
use Rattle.mu_picture.specs.declared.layout.Cursor.{Cursor}
use Rattle.mu_picture.specs.declared.marks.Mark.{Mark}

-- the row after those of marks and of one more
pub after_more : (cursor : Cursor) (marks : List Mark) (mark : Mark) → after_marks cursor (marks ++ mark ∷ []) ≡ after (after_marks cursor marks) mark.step
after_more cursor [] mark = refl
after_more cursor (first ∷ marks) mark = after_more (after cursor first.step) marks mark

-- one more mark has a row after those of marks, if it isn't too low there
pub rows_more : (cursor : Cursor) (marks : List Mark) (mark : Mark) → HaveRows cursor marks → (after_marks cursor marks).y ≤ 32500 → HaveRows cursor (marks ++ mark ∷ [])
rows_more cursor [] mark rows low = (low, tt)
rows_more cursor (first ∷ marks) mark rows low = (rows.0, rows_more (after cursor first.step) marks mark rows.1 low)
