use Rattle.std.proofs.Common.{◌+◌, ◌-◌, ◌++◌, ◌∙◌, ap}
use Rattle.std.specs.Prelude.{codes}
use Rattle.std.specs.Fmt.{decimal}
use Rattle.mu_picture.specs.Drawing.{axis_piece}
use Rattle.mu_picture.specs.Layout.{lane_of}
use Rattle.mu_picture.specs.Shapes.{text_piece}
use Rattle.mu_picture.specs.declared.shapes.Look.{Look}
use Rattle.mu_picture.proofs.Appends.{joined, on_ok}
use Rattle.mu_picture.proofs.drawing.push_goes_on.Goals as goal

pub returns : goal.returns
returns c =
    let y = c.args.y in
    let p1 = axis_piece (y + 12) (codes "goes on") in
    let p2 = text_piece Look.Label (lane_of 0 - 10) (y + 12) (codes "with step " ++ decimal c.args.end) in
    let s1 = c.push_axis.new.sheet in
    let s2 = c.push_text.new.sheet in
    let words = c.as_slice.ensures ∙ (c.numbered_line-line.ensures ∙ ap (λ n. codes "with step " ++ decimal n) c.from.ensures) in
    on_ok c.push_text.result c.push_text.ensures
    (λ done. joined c.args.sheet.now s1 s2 p1 p2 c.in_ok-push_axis.ensures (done ∙ ap (λ w. s1 ++ text_piece Look.Label (lane_of 0 - 10) (y + 12) w) words))
