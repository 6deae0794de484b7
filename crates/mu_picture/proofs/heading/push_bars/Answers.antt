use Rattle.std.proofs.Common.{◌++◌, ◌∙◌, ap}
use Rattle.std.specs.Prelude.{codes}
use Rattle.mu_picture.specs.Drawing.{sample_block, sample_piece}
use Rattle.mu_picture.specs.declared.shapes.Look.{Look}
use Rattle.mu_picture.proofs.Appends.{joined, on_ok}
use Rattle.mu_picture.proofs.heading.push_bars.Goals as goal

pub returns : goal.returns
returns c =
    let p1 = sample_piece 36 61 (sample_block (Look.Of 0) 16 54 8) (codes "owns the region") in
    let p2 = sample_piece 146 61 (sample_block Look.Closing 126 54 8) (codes "closing") in
    let p3 = sample_piece 256 61 (sample_block (Look.Of 0) 239 54 3) (codes "whom it names") in
    let p4 = sample_piece 366 61 (sample_block Look.Folded 340 54 22) (codes "folded steps") in
    let s1 = c.push_sample.new.sheet in
    let s2 = c.push_sample-2.new.sheet in
    let s3 = c.push_sample-3.new.sheet in
    let s4 = c.push_sample-4.new.sheet in
    on_ok c.push_sample-4.result c.push_sample-4.ensures
    (λ done. joined c.args.sheet.now s1 s4 p1 (p2 ++ (p3 ++ p4)) (c.in_ok-push_sample.ensures ∙ ap (λ shape. c.args.sheet.now ++ sample_piece 36 61 shape (codes "owns the region")) c.block.ensures)
    (joined s1 s2 s4 p2 (p3 ++ p4) (c.in_ok-push_sample-2.ensures ∙ ap (λ shape. s1 ++ sample_piece 146 61 shape (codes "closing")) c.block-2.ensures)
    (joined s2 s3 s4 p3 p4 (c.in_ok-push_sample-3.ensures ∙ ap (λ shape. s2 ++ sample_piece 256 61 shape (codes "whom it names")) c.block-3.ensures)
    (done ∙ ap (λ shape. s3 ++ sample_piece 366 61 shape (codes "folded steps")) c.block-4.ensures))))
