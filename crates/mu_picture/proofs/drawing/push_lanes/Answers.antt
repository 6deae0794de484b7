use Rattle.std.proofs.Common.{◌+◌, ◌++◌, ◌∙◌, ap, append_assoc, drop, sym}
use Rattle.std.proofs.lemmas.List.{at_drop_more}
use Rattle.mu_picture.specs.Drawing.{lanes_from, lane_pieces}
use Rattle.mu_picture.proofs.drawing.push_lanes.Goals as goal

pub loop-opening-preserved : goal.loop-opening-preserved
loop-opening-preserved c =
    let i = c.loop-opening.opening-index in
    let openings = c.args.openings.now in
    let r = c.loop-opening.r in
    let rest = lanes_from (r + 1) (drop (i + 1) openings) in
    let one = at_drop_more (λ l. c.loop-opening.sheet ++ lanes_from r l) openings i _ c.loop-opening-test.true in
    record {
      lanes = ap (λ l. l ++ rest) c.in_ok-push_lane.ensures
          ∙ (append_assoc c.loop-opening.sheet (lane_pieces r _) rest ∙ (sym one ∙ c.loop-opening.invariant.lanes));
      number = ap (λ n. n + 1) c.loop-opening.invariant.number;
    }
