-- The rows of the marks before this one are there.
use Rattle.std.proofs.Common.{◌≡◌, ◌≤◌, ◌+◌, ◌*◌, ◌++◌, drop}
use Rattle.mu_picture.specs.Drawing.{rows_from}
use Rattle.mu_picture.specs.Layout.{after_marks, top}
use Rattle.mu_picture.proofs.rows.push_rows.Given as goal

abbrev pub invariant-loop-mark : goal.invariant-loop-mark
invariant-loop-mark l = record {
  rows : l.sheet ++ rows_from l.job l.line l.n l.cursor (drop l.mark-index l.marks) ≡ l.initial.sheet ++ rows_from l.job l.line l.n (top l.first) l.marks;
  next : after_marks l.cursor (drop l.mark-index l.marks) ≡ after_marks (top l.first) l.marks;
  low : l.cursor.y ≤ 92 + 59 * l.mark-index;
  few : l.cursor.rows ≤ l.mark-index;
}
