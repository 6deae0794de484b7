use Rattle.std.proofs.Common.{◌<◌, ◌∙◌, ap, subst, sym}
use Rattle.mu_model.proofs.Basics.{same_some}
use Rattle.mu_model.specs.Histories.{part}
use Rattle.mu_model.specs.Scores.{is_failed}
use Rattle.mu_picture.proofs.trail.fails.Goals as goal

pub returns-in-Some : goal.returns-in-Some
returns-in-Some c = λ past k p is low near held.
    let same = same_some c.in-Some.q p (sym c.in-Some.is ∙ is) in
    c.fails.ensures past k low (subst (λ m. m < k.replicas) (sym same) near) held
    ∙ ap (λ m. is_failed c.args.r m (part c.args.r past)) same
