use Rattle.std.proofs.Common.{◌++◌, ◌∙◌, ap}
use Rattle.mu_picture.specs.Drawing.{facts_words, hatching, legend, style, title}
use Rattle.mu_picture.specs.Shapes.{shape_piece, text_piece}
use Rattle.mu_picture.specs.declared.shapes.Look.{Look}
use Rattle.mu_picture.specs.declared.shapes.Shape.{Shape}
use Rattle.mu_picture.proofs.Appends.{joined, on_ok}
use Rattle.mu_picture.proofs.heading.push_head.Goals as goal

pub returns : goal.returns
returns c =
    let ground = shape_piece (Shape.Bar Look.Ground 0 0 c.args.width) in
    let facts = text_piece Look.Label 4 14 (facts_words c.args.config.now c.args.picture.now) in
    let s0 = c.push_title.new.sheet in
    let s1 = c.push_style.new.sheet in
    let s2 = c.push_hatching.new.sheet in
    let s3 = c.push_shape.new.sheet in
    let s4 = c.push_text.new.sheet in
    let s5 = c.push_legend.new.sheet in
    let told = c.as_slice.ensures ∙ (c.in_ok-push_facts.ensures ∙ ap (λ l. l ++ facts_words c.args.config.now c.args.picture.now) c.new-facts.ensures) in
    on_ok c.push_legend.result c.push_legend.ensures
    (λ done. joined c.args.sheet.now s0 s5 title (style ++ (hatching ++ (ground ++ (facts ++ legend)))) c.in_ok-push_title.ensures
    (joined s0 s1 s5 style (hatching ++ (ground ++ (facts ++ legend))) c.in_ok-push_style.ensures
    (joined s1 s2 s5 hatching (ground ++ (facts ++ legend)) c.in_ok-push_hatching.ensures
    (joined s2 s3 s5 ground (facts ++ legend) c.in_ok-push_shape.ensures
    (joined s3 s4 s5 facts legend (c.in_ok-push_text.ensures ∙ ap (λ words. s3 ++ text_piece Look.Label 4 14 words) told) done)))))
