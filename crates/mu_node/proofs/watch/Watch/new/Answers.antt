use Rattle.std.proofs.Common.{[], subst}
use Rattle.mu_detect.specs.Stands.{StandsFor}
use Rattle.mu_node.proofs.watch.Watch.new.Goals as goal

pub returns : goal.returns
returns c k same =
    let scores = subst (λ n. StandsFor n c.args.id [] c.new-scores.result) same c.new-scores.ensures in
    record { scores = scores; named = c.leader.ensures k c.args.id [] scores; failed = c.failed_in.ensures k c.args.id [] same scores }
