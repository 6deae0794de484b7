use Rattle.mu_picture.specs.Drawing.{legend_of_bars, legend_of_lanes, legend_of_lines}
use Rattle.std.proofs.Common.{◌++◌}
use Rattle.mu_picture.proofs.Appends.{joined, on_ok}
use Rattle.mu_picture.proofs.heading.push_legend.Goals as goal

pub returns : goal.returns
returns c =
    let s1 = c.push_lines.new.sheet in
    let s2 = c.push_lanes.new.sheet in
    let s3 = c.push_bars.new.sheet in
    on_ok c.push_bars.result c.push_bars.ensures
    (λ done. joined c.args.sheet.now s1 s3 legend_of_lines (legend_of_lanes ++ legend_of_bars) c.in_ok-push_lines.ensures
    (joined s1 s2 s3 legend_of_lanes legend_of_bars c.in_ok-push_lanes.ensures done))
