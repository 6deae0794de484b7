use Rattle.std.proofs.Common.{◌++◌}
use Rattle.std.specs.Prelude.{codes}
use Rattle.mu_picture.specs.Drawing.{content_of, front_of}
use Rattle.mu_picture.proofs.Appends.{joined, on_ok}
use Rattle.mu_picture.proofs.drawing.push_document.Goals as goal

pub returns : goal.returns
returns c =
    let p1 = front_of c.args.width c.args.height in
    let p2 = content_of c.args.job.now c.args.line c.args.picture.now c.args.breach.now c.args.width in
    let p3 = codes "</svg>\n" in
    let s1 = c.push_front.new.sheet in
    let s2 = c.push_content.new.sheet in
    let s3 = c.push.new.self in
    on_ok c.push.result c.push.ensures
    (λ done. joined c.args.sheet.now s1 s3 p1 (p2 ++ p3) c.in_ok-push_front.ensures (joined s1 s2 s3 p2 p3 c.in_ok-push_content.ensures done))
