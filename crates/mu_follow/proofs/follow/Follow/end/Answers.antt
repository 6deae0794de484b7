use Rattle.std.proofs.Common.{◌∙◌, ap, arith, length, subst}
use Rattle.mu_model.specs.Contents.{IsConfig}
use Rattle.mu_agree.proofs.Within.{known_few}
use Rattle.mu_follow.proofs.follow.Follow.end.Goals as goal

pub returns : goal.returns
returns c k r mine possible held =
    let long = ap length (c.known.ensures k r mine held.knowing) in
    let few = known_few k r mine (subst (λ x. IsConfig x) held.config c.requires.config) possible in
    c.as_position.ensures (omega (arith, long, few)) ∙ long
