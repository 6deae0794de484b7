use Rattle.std.proofs.Common.{◌++◌, ◌∙◌, ap}
use Rattle.mu_picture.specs.Drawing.{standing_pieces, title_pieces}
use Rattle.mu_picture.specs.Lanes.{region_shapes}
use Rattle.mu_picture.specs.Shapes.{shape_pieces}
use Rattle.mu_picture.proofs.Appends.{joined, on_ok}
use Rattle.mu_picture.proofs.drawing.push_lane.Goals as goal

pub returns : goal.returns
returns c =
    let r = c.args.r in
    let opening = c.args.opening.now in
    let p1 = title_pieces r 84 in
    let p2 = shape_pieces (region_shapes r opening) in
    let p3 = standing_pieces r opening opening.standing in
    let s1 = c.push_title.new.sheet in
    let s2 = c.push_region.new.sheet in
    let s3 = c.push_standing.new.sheet in
    on_ok c.push_standing.result c.push_standing.ensures
    (λ done. joined c.args.sheet.now s1 s3 p1 (p2 ++ p3) (c.in_ok-push_title.ensures ∙ ap (λ q. c.args.sheet.now ++ title_pieces q 84) c.from.ensures)
    (joined s1 s2 s3 p2 p3 c.in_ok-push_region.ensures done))
