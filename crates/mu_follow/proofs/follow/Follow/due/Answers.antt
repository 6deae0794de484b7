use Rattle.std.proofs.Common.{subst, sym}
use Rattle.std.specs.Prelude.{IfSome}
use Rattle.mu_model.specs.Allowed.{Allowed}
use Rattle.mu_model.specs.Contents.{IsConfig}
use Rattle.mu_follow.specs.Due.{IsReplay}
use Rattle.mu_follow.proofs.Due.{replay_allowed}
use Rattle.mu_follow.proofs.follow.Follow.due.Goals as goal

pub returns-clause-allowed : goal.returns-clause-allowed
returns-clause-allowed c k r mine possible short held =
    let good = subst (λ x. IsConfig x) held.config c.requires.config in
    subst (λ due. IfSome due (λ verb. Allowed k r mine verb × IsReplay c.args.leading verb)) (sym (c.planned.ensures k r mine possible held))
    (replay_allowed k r c.args.self.now.progress.handed c.args.place mine c.args.leading good possible held.inside short held.progress.handed)
