use Rattle.std.proofs.Common.{◌-◌, ◌++◌, ◌∙◌, ap}
use Rattle.mu_picture.specs.Drawing.{breach_pieces, fold_pieces, more_pieces}
use Rattle.mu_picture.specs.Layout.{bottom_of}
use Rattle.mu_picture.proofs.Appends.{joined, on_ok}
use Rattle.mu_picture.proofs.drawing.push_foot.Goals as goal

pub returns : goal.returns
returns c =
    let picture = c.args.picture.now in
    let cursor = c.args.cursor in
    let n = c.args.n in
    let foot = bottom_of picture.end cursor in
    let p1 = fold_pieces n cursor.y (picture.end - cursor.at) in
    let p2 = more_pieces picture foot in
    let p3 = breach_pieces c.args.line n foot c.args.breach.now in
    let s1 = c.push_fold.new.sheet in
    let s2 = c.push_more.new.sheet in
    let s3 = c.push_breach.new.sheet in
    let low = c.bottom-foot.ensures.is ∙ ap (λ e. bottom_of e cursor) c.from-end.ensures in
    let steps = c.hidden_before.ensures ∙ ap (λ e. e - cursor.at) c.from-end.ensures in
    on_ok c.push_breach.result c.push_breach.ensures
    (λ done. joined c.args.sheet.now s1 s3 p1 (p2 ++ p3) (c.in_ok-push_fold.ensures ∙ ap (λ k. c.args.sheet.now ++ fold_pieces n cursor.y k) steps)
    (joined s1 s2 s3 p2 p3 (c.in_ok-push_more.ensures ∙ ap (λ y. s1 ++ more_pieces picture y) low)
    (done ∙ ap (λ y. s2 ++ breach_pieces c.args.line n y c.args.breach.now) low)))
