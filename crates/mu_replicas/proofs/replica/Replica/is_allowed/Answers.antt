use Rattle.std.proofs.Common.{sym, ◌∙◌}
use Rattle.std.proofs.lemmas.Bool.{false≢true}
use Rattle.mu_model.specs.Points.{bounds, needs}
use Rattle.mu_model.proofs.AllMet.{met_front}
use Rattle.mu_replicas.proofs.replica.Replica.is_allowed.Goals as goal

pub returns-then-not-is_none : goal.returns-then-not-is_none
returns-then-not-is_none c r mine possible held =
    let k = c.args.config.now in
    let within = c.is_none.ensures k r mine (bounds r mine) (c.why_no_step.ensures r mine held) in (
      λ t. absurd (false≢true t),
      λ m. absurd (false≢true (sym c.if-not-is_none.true ∙ within.1 (met_front k r mine (bounds r mine) (needs k r mine c.args.verb.now) m))),
    )

pub returns : goal.returns
returns c r mine possible held =
    let within = c.is_none.ensures c.args.config.now r mine (bounds r mine) (c.why_no_step.ensures r mine held) in
    c.meets_points.ensures r mine possible held (within.0 c.if-not-is_none.false)
