use Rattle.std.proofs.Common.{[], ◌+◌, ◌++◌, ◌∙◌, ap}
use Rattle.std.specs.Fmt.{decimal}
use Rattle.mu_events.specs.Lines.{event_line}
use Rattle.mu_picture.specs.Drawing.{axis_piece, breach_figure, fault_piece}
use Rattle.mu_picture.proofs.Appends.{joined, on_ok}
use Rattle.mu_picture.proofs.drawing.push_breach_inside.Goals as goal

pub returns : goal.returns
returns c =
    let breach = c.args.breach.now in
    let n = c.args.n in
    let y = c.args.y in
    let p1 = breach_figure n breach.event.by y in
    let p2 = axis_piece (y + 29) ([] ++ decimal breach.step) in
    let p3 = fault_piece n (y + 29) (event_line breach.event) in
    let p4 = fault_piece 0 (y + 41) breach.fault in
    let s1 = c.push_breach_figure.new.sheet in
    let s2 = c.push_step.new.sheet in
    let s3 = c.push_fault.new.sheet in
    let s4 = c.push_fault-2.new.sheet in
    on_ok c.push_fault-2.result c.push_fault-2.ensures
    (λ done. joined c.args.sheet.now s1 s4 p1 (p2 ++ (p3 ++ p4)) c.in_ok-push_breach_figure.ensures
    (joined s1 s2 s4 p2 (p3 ++ p4) c.in_ok-push_step.ensures
    (joined s2 s3 s4 p3 p4 (c.in_ok-push_fault.ensures ∙ ap (λ words. s2 ++ fault_piece n (y + 29) words) (c.as_slice.ensures ∙ c.event_line-words.ensures.bytes))
    (done ∙ ap (λ words. s3 ++ fault_piece 0 (y + 41) words) c.as_slice-2.ensures))))
