use Rattle.std.proofs.Common.{sym, subst}
use Rattle.mu_model.specs.Points.{bounds, points}
use Rattle.mu_model.specs.Reasons.{Finds}
use Rattle.mu_replicas.proofs.replica.Replica.meets_any.Goals as goal

pub returns : goal.returns
returns c r mine possible held met =
    let k = c.args.config.now in
    let start = subst (λ found. Finds k r mine (bounds r mine) found) (sym c.new.ensures.none) met in
    c.is_none.ensures k r mine (points k r mine c.args.verb.now) (c.why_no_verb.ensures r mine possible held start)
