use Rattle.std.proofs.Common.{[], ◌+◌, ◌++◌, ◌∙◌, ap}
use Rattle.std.specs.Prelude.{codes}
use Rattle.std.specs.Fmt.{decimal}
use Rattle.mu_picture.specs.Drawing.{axis_piece, figure_pieces, note_piece}
use Rattle.mu_picture.specs.Shapes.{tooltip_piece}
use Rattle.mu_picture.specs.Words.{note_words, step_words}
use Rattle.mu_picture.proofs.Appends.{joined, on_ok}
use Rattle.mu_picture.proofs.rows.push_mark.Goals as goal

pub returns : goal.returns
returns c =
    let mark = c.args.mark.now in
    let y = c.args.y in
    let p1 = tooltip_piece (step_words c.args.line mark.step mark.event) in
    let p2 = figure_pieces y mark in
    let p3 = axis_piece (y + 3) ([] ++ decimal mark.step) in
    let p4 = note_piece c.args.n mark.event.by y (note_words c.args.job.now mark) in
    let p5 = codes "</g>\n" in
    let s1 = c.push_event.new.sheet in
    let s2 = c.push_figure.new.sheet in
    let s3 = c.push_step.new.sheet in
    let s4 = c.push_note.new.sheet in
    let s5 = c.push.new.self in
    let said = c.as_slice.ensures ∙ c.in_ok-note.ensures in
    on_ok c.push.result c.push.ensures
    (λ done. joined c.args.sheet.now s1 s5 p1 ((p2 ++ (p3 ++ p4)) ++ p5) c.in_ok-push_event.ensures
    (joined s1 s4 s5 (p2 ++ (p3 ++ p4)) p5
    (joined s1 s2 s4 p2 (p3 ++ p4) c.in_ok-push_figure.ensures
    (joined s2 s3 s4 p3 p4 c.in_ok-push_step.ensures (c.in_ok-push_note.ensures ∙ ap (λ words. s3 ++ note_piece c.args.n mark.event.by y words) said)))
    done))
