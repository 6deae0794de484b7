use Rattle.std.proofs.Common.{◌∙◌}
use Rattle.mu_model.specs.Histories.{part}
use Rattle.mu_model.proofs.Reasons.{met_where_allowed}
use Rattle.mu_regions.proofs.Range.{in_range}
use Rattle.mu_judge.proofs.judge.Judge.fault.Goals as goal

pub returns-in-Some : goal.returns-in-Some
returns-in-Some c past held denied = c.in-Some.ensures past held.legal held.replicas

pub returns-in-None : goal.returns-in-None
returns-in-None c past held denied =
    let k = c.args.config.now in
    let by = c.args.event.now.by in
    let verb = c.args.event.now.verb in
    let allowed = (met_where_allowed k by (part by past) verb).0 (c.in-None.ensures past held.legal held.replicas) in
    let told = c.answer-expected.ensures k past (in_range k by _ verb allowed) held.regions in
    (allowed, told, λ same. denied (record { allowed = allowed; answer = same ∙ told }))
