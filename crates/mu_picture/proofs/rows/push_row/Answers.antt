use Rattle.std.proofs.Common.{◌+◌, ◌-◌, ◌++◌, ◌∙◌, ap}
use Rattle.mu_picture.specs.Drawing.{fold_pieces, mark_pieces, titles_again}
use Rattle.mu_picture.specs.Layout.{row_of, stretch_top_of}
use Rattle.mu_picture.proofs.Appends.{joined, on_ok}
use Rattle.mu_picture.proofs.rows.push_row.Goals as goal

pub returns : goal.returns
returns c =
    let job = c.args.job.now in
    let mark = c.args.mark.now in
    let cursor = c.args.cursor in
    let n = c.args.n in
    let p1 = titles_again n cursor in
    let p2 = fold_pieces n (stretch_top_of cursor) (mark.step - cursor.at) in
    let p3 = mark_pieces job c.args.line n (row_of cursor mark.step + 6) mark in
    let s1 = c.push_titles_again.new.sheet in
    let s2 = c.push_fold.new.sheet in
    let s3 = c.push_mark.new.sheet in
    let step = c.from-step.ensures in
    on_ok c.push_mark.result c.push_mark.ensures
    (λ done. joined c.args.sheet.now s1 s3 p1 (p2 ++ p3) c.in_ok-push_titles_again.ensures
    (joined s1 s2 s3 p2 p3
    (c.in_ok-push_fold.ensures
    ∙ (ap (λ y. s1 ++ fold_pieces n y c.hidden_before.result) c.stretch_top.ensures.is
    ∙ ap (λ k. s1 ++ fold_pieces n (stretch_top_of cursor) k) (c.hidden_before.ensures ∙ ap (λ k. k - cursor.at) step)))
    (done ∙ ap (λ y. s2 ++ mark_pieces job c.args.line n (y + 6) mark) (c.row.ensures.is ∙ ap (λ k. row_of cursor k) step))))
