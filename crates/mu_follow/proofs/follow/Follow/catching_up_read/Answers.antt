use Rattle.std.proofs.Common.{false, subst, sym}
use Rattle.std.specs.Prelude.{IfSome}
use Rattle.mu_model.specs.Allowed.{Allowed}
use Rattle.mu_model.specs.Contents.{IsConfig}
use Rattle.mu_follow.specs.Due.{IsReplay}
use Rattle.mu_follow.proofs.CatchingUp.{catch_up_allowed}
use Rattle.mu_follow.proofs.follow.Follow.catching_up_read.Goals as goal

pub returns-clause-allowed : goal.returns-clause-allowed
returns-clause-allowed c k r mine possible short held =
    let good = subst (λ x. IsConfig x) held.config c.requires.config in
    subst (λ due. IfSome due (λ verb. Allowed k r mine verb × IsReplay false verb)) (sym (c.reading_on.ensures k r mine possible held))
    (catch_up_allowed k r mine good possible held.inside short)
