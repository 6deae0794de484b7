use Rattle.std.proofs.Common.{◌++◌, ◌∙◌, ap}
use Rattle.std.specs.Prelude.{codes}
use Rattle.mu_picture.specs.Drawing.{sample_block, sample_cross, sample_level, sample_piece}
use Rattle.mu_picture.specs.declared.shapes.Look.{Look}
use Rattle.mu_picture.proofs.Appends.{joined, on_ok}
use Rattle.mu_picture.proofs.heading.push_lanes.Goals as goal

pub returns : goal.returns
returns c =
    let p1 = sample_piece 146 47 (sample_block (Look.Of 0) 124 40 12) (codes "leads") in
    let p2 = sample_piece 256 47 (sample_block Look.Hatched 234 40 12) (codes "pauses") in
    let p3 = sample_piece 366 47 (sample_cross 346 40) (codes "stops, outrun") in
    let p4 = sample_piece 476 47 (sample_level 452 44) (codes "has finished") in
    let s1 = c.push_sample.new.sheet in
    let s2 = c.push_sample-2.new.sheet in
    let s3 = c.push_sample-3.new.sheet in
    let s4 = c.push_sample-4.new.sheet in
    on_ok c.push_sample-4.result c.push_sample-4.ensures
    (λ done. joined c.args.sheet.now s1 s4 p1 (p2 ++ (p3 ++ p4)) (c.in_ok-push_sample.ensures ∙ ap (λ shape. c.args.sheet.now ++ sample_piece 146 47 shape (codes "leads")) c.block.ensures)
    (joined s1 s2 s4 p2 (p3 ++ p4) (c.in_ok-push_sample-2.ensures ∙ ap (λ shape. s1 ++ sample_piece 256 47 shape (codes "pauses")) c.block-2.ensures)
    (joined s2 s3 s4 p3 p4 (c.in_ok-push_sample-3.ensures ∙ ap (λ shape. s2 ++ sample_piece 366 47 shape (codes "stops, outrun")) c.cross.ensures)
    (done ∙ ap (λ shape. s3 ++ sample_piece 476 47 shape (codes "has finished")) c.level.ensures))))
