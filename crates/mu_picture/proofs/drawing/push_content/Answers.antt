use Rattle.std.proofs.Common.{◌++◌, ◌∙◌, ap, length}
use Rattle.mu_picture.specs.Drawing.{foot_pieces, head_pieces, lanes_from, last_cursor, rows_from}
use Rattle.mu_picture.specs.Layout.{top}
use Rattle.mu_picture.proofs.Appends.{joined, on_ok}
use Rattle.mu_picture.proofs.drawing.push_content.Goals as goal

pub returns : goal.returns
returns c =
    let job = c.args.job.now in
    let picture = c.args.picture.now in
    let line = c.args.line in
    let breach = c.args.breach.now in
    let n = length picture.openings.items in
    let p1 = head_pieces job.config picture c.args.width in
    let p2 = lanes_from 0 picture.openings.items in
    let p3 = rows_from job line n (top picture.first) picture.marks.items in
    let p4 = foot_pieces line n picture breach (last_cursor picture) in
    let s1 = c.push_head.new.sheet in
    let s2 = c.push_all_lanes.new.sheet in
    let s3 = c.push_all_rows.new.sheet in
    let s4 = c.push_foot.new.sheet in
    let lanes = c.lanes_in-n.ensures in
    on_ok c.push_foot.result c.push_foot.ensures
    (λ done. joined c.args.sheet.now s1 s4 p1 (p2 ++ (p3 ++ p4)) c.in_ok-push_head.ensures
    (joined s1 s2 s4 p2 (p3 ++ p4) c.in_ok-push_all_lanes.ensures
    (joined s2 s3 s4 p3 p4 (c.in_ok-cursor.ensures.rows ∙ ap (λ m. s2 ++ rows_from job line m (top picture.first) picture.marks.items) lanes)
    (done ∙ (ap (λ m. s3 ++ foot_pieces line m picture breach c.in_ok-cursor.cursor) lanes ∙ ap (λ k. s3 ++ foot_pieces line n picture breach k) c.in_ok-cursor.ensures.next)))))
