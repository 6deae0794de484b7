use Rattle.std.proofs.Common.{◌∷◌, [], ◌∙◌, ◌≤◌, ap, arith, length, subst, sym}
use Rattle.std.proofs.lemmas.List.{length-append}
use Rattle.mu_picture.proofs.Cursors.{after_more, rows_more}
use Rattle.mu_picture.specs.Layout.{HaveRows, after, after_marks, top}
use Rattle.mu_picture.specs.declared.layout.Cursor.{Cursor}
use Rattle.mu_picture.proofs.pictures.Rows.push.Goals as goal

pub returns-in_ok-push-in-Some-2-clause-rows : goal.returns-in_ok-push-in-Some-2-clause-rows
returns-in_ok-push-in-Some-2-clause-rows c = λ n held.
    let self = c.args.self.now in
    let mark = c.in-Some-2.mark in
    let pushed = c.in_ok-push-in-Some-2.ensures.items in
    let room = c.is_full.ensures.room c.if-is_full.false in
    record {
      cursor = c.after-self.ensures.is
          ∙ (ap (λ k. after k mark.step) held.cursor
          ∙ (sym (after_more (top self.first) self.marks.items mark) ∙ ap (λ l. after_marks (top self.first) l) (sym pushed)));
      placed = subst (HaveRows (top self.first)) (sym pushed)
          (rows_more (top self.first) self.marks.items mark held.placed (subst (λ (k : Cursor). k.y ≤ 32500) held.cursor room));
      low = omega (arith, c.after-self.ensures.low, room);
      few = omega (arith, c.after-self.ensures.rows, held.few);
      count = let one = ap length pushed ∙ length-append self.marks.items (mark ∷ []) in omega (arith, one, held.count);
    }
