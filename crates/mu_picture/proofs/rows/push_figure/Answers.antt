use Rattle.std.proofs.Common.{◌+◌, ◌++◌, ◌∙◌, ap}
use Rattle.mu_picture.specs.Lanes.{deed_shapes, halt_shapes, resumed_shapes}
use Rattle.mu_picture.specs.Layout.{lane_of}
use Rattle.mu_picture.specs.Shapes.{said_piece, shape_pieces}
use Rattle.mu_picture.specs.Words.{label_words}
use Rattle.mu_picture.specs.declared.shapes.Look.{Look}
use Rattle.mu_picture.proofs.Appends.{joined, on_ok}
use Rattle.mu_picture.proofs.rows.push_figure.Goals as goal

pub returns : goal.returns
returns c =
    let mark = c.args.mark.now in
    let r = mark.event.by in
    let y = c.args.y in
    let p1 = shape_pieces (resumed_shapes r y mark.resumed) in
    let p2 = shape_pieces (deed_shapes r y mark.deed) in
    let p3 = shape_pieces (halt_shapes r y mark.halt) in
    let p4 = said_piece Look.Label (lane_of r + 58) (y + 3) (label_words mark.deed) in
    let s1 = c.push_resumed.new.sheet in
    let s2 = c.push_deed.new.sheet in
    let s3 = c.push_halt.new.sheet in
    let s4 = c.push_label.new.sheet in
    let label = c.as_slice.ensures ∙ c.label_of-label.ensures in
    on_ok c.push_label.result c.push_label.ensures
    (λ done. joined c.args.sheet.now s1 s4 p1 (p2 ++ (p3 ++ p4)) c.in_ok-push_resumed.ensures
    (joined s1 s2 s4 p2 (p3 ++ p4) c.in_ok-push_deed.ensures
    (joined s2 s3 s4 p3 p4 c.in_ok-push_halt.ensures (done ∙ ap (λ words. s3 ++ said_piece Look.Label (lane_of r + 58) (y + 3) words) label))))
