use Rattle.std.proofs.Common.{◌++◌, ◌∙◌, ap, true, false}
use Rattle.std.specs.Prelude.{codes}
use Rattle.mu_picture.specs.Drawing.{sample_dot, sample_line, sample_piece}
use Rattle.mu_picture.specs.declared.shapes.Look.{Look}
use Rattle.mu_picture.proofs.Appends.{joined, on_ok}
use Rattle.mu_picture.proofs.heading.push_lines.Goals as goal

pub returns : goal.returns
returns c =
    let p1 = sample_piece 36 33 (sample_line Look.Asks false 14 30) (codes "asks") in
    let p2 = sample_piece 146 33 (sample_line Look.Landed false 124 30) (codes "put landed") in
    let p3 = sample_piece 256 33 (sample_line Look.Missed true 234 30) (codes "put missed") in
    let p4 = sample_piece 366 33 (sample_line Look.Commits false 344 30) (codes "put commits") in
    let p5 = sample_piece 476 33 (sample_dot Look.Landed 460 30) (codes "learns") in
    let p6 = sample_piece 36 47 (sample_dot Look.Closing 20 44) (codes "applied to") in
    let s1 = c.push_sample.new.sheet in
    let s2 = c.push_sample-2.new.sheet in
    let s3 = c.push_sample-3.new.sheet in
    let s4 = c.push_sample-4.new.sheet in
    let s5 = c.push_sample-5.new.sheet in
    let s6 = c.push_sample-6.new.sheet in
    on_ok c.push_sample-6.result c.push_sample-6.ensures
    (λ done. joined c.args.sheet.now s1 s6 p1 (p2 ++ (p3 ++ (p4 ++ (p5 ++ p6)))) (c.in_ok-push_sample.ensures ∙ ap (λ shape. c.args.sheet.now ++ sample_piece 36 33 shape (codes "asks")) c.sample.ensures)
    (joined s1 s2 s6 p2 (p3 ++ (p4 ++ (p5 ++ p6))) (c.in_ok-push_sample-2.ensures ∙ ap (λ shape. s1 ++ sample_piece 146 33 shape (codes "put landed")) c.sample-2.ensures)
    (joined s2 s3 s6 p3 (p4 ++ (p5 ++ p6)) (c.in_ok-push_sample-3.ensures ∙ ap (λ shape. s2 ++ sample_piece 256 33 shape (codes "put missed")) c.sample-3.ensures)
    (joined s3 s4 s6 p4 (p5 ++ p6) (c.in_ok-push_sample-4.ensures ∙ ap (λ shape. s3 ++ sample_piece 366 33 shape (codes "put commits")) c.sample-4.ensures)
    (joined s4 s5 s6 p5 p6 (c.in_ok-push_sample-5.ensures ∙ ap (λ shape. s4 ++ sample_piece 476 33 shape (codes "learns")) c.dot.ensures)
    (done ∙ ap (λ shape. s5 ++ sample_piece 36 47 shape (codes "applied to")) c.dot-2.ensures))))))
