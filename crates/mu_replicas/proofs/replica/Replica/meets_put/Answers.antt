use Rattle.std.proofs.Common.{sym, subst}
use Rattle.mu_model.specs.declared.event.Verb.{Verb}
use Rattle.mu_model.specs.Points.{bounds, points}
use Rattle.mu_model.specs.Reasons.{Finds}
use Rattle.mu_replicas.proofs.replica.Replica.meets_put.Goals as goal

pub returns : goal.returns
returns c r mine possible held met =
    let k = c.args.config.now in
    let start = subst (λ found. Finds k r mine (bounds r mine) found) (sym c.new.ensures.none) met in
    c.is_none.ensures k r mine (points k r mine (Verb.PutSlot c.args.p c.args.i c.args.b c.args.v)) (c.why_no_put.ensures r mine possible held start)
