-- The rows of the marks before this one are counted.
use Rattle.std.proofs.Common.{◌≡◌, ◌≤◌, ◌+◌, ◌*◌, drop}
use Rattle.mu_picture.specs.Layout.{after_marks, top}
use Rattle.mu_picture.proofs.drawing.cursor_below.Given as goal

abbrev pub invariant-loop-mark : goal.invariant-loop-mark
invariant-loop-mark l = record {
  next : after_marks l.cursor (drop l.mark-index l.picture.marks.items) ≡ after_marks (top l.picture.first) l.picture.marks.items;
  low : l.cursor.y ≤ 92 + 59 * l.mark-index;
  few : l.cursor.rows ≤ l.mark-index;
}
