-- Where things stand in a drawing: lanes side by side, time downwards. A step with a mark has a
-- row; each other step of a short stretch takes one unit, and a long stretch is folded and told.
use Rattle.std.specs.Prelude.{ℕ, ◌≤◌, ◌+◌, ◌-◌, ◌*◌, ◌%◌, ◌==◌, ◌&&◌, ⊤, Bool, not, if◌then◌else◌, nat_lt, List, [], ◌∷◌}
use Rattle.mu_picture.specs.declared.layout.Cursor.{Cursor}
use Rattle.mu_picture.specs.declared.marks.Mark.{Mark}

-- where the lane of a replica stands
abbrev pub lane_of : ℕ → ℕ
lane_of r = 72 + 160 * r

-- the height of a stretch of this many steps without a mark: long ones are folded
abbrev pub stretch_of : ℕ → ℕ
stretch_of steps = if nat_lt 31 steps then 16 else steps

-- above all rows of a picture that begins with this step
abbrev pub top : ℕ → Cursor
top first = record { at = first; y = 92; rows = 0 }

-- the titles stand again above the next row
abbrev pub has_titles : Cursor → Bool
has_titles cursor = not (cursor.rows == 0) && (cursor.rows % 48 == 0)

-- where the stretch before the next row stands
abbrev pub stretch_top_of : Cursor → ℕ
stretch_top_of cursor = if has_titles cursor then cursor.y + 16 else cursor.y

-- where the row of a step stands
abbrev pub row_of : Cursor → ℕ → ℕ
row_of cursor step = stretch_top_of cursor + stretch_of (step - cursor.at)

-- where the row after that of a step goes
abbrev pub after : Cursor → ℕ → Cursor
after cursor step =
    record { at = step + 1; y = row_of cursor step + 12; rows = cursor.rows + 1 }

-- where the row after those of these marks goes
abbrev pub after_marks : Cursor → List Mark → Cursor
after_marks cursor [] = cursor
after_marks cursor (mark ∷ marks) = after_marks (after cursor mark.step) marks

-- each of these marks has a row, since none begins too low; the first may begin at the cursor
abbrev pub HaveRows : Cursor → List Mark → Type 0
HaveRows cursor [] = ⊤
HaveRows cursor (mark ∷ marks) = (cursor.y ≤ 32500) × HaveRows (after cursor mark.step) marks

-- where the steps before `end` end
abbrev pub bottom_of : ℕ → Cursor → ℕ
bottom_of end cursor = cursor.y + stretch_of (end - cursor.at)
