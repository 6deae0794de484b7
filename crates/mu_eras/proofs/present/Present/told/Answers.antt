use Rattle.std.proofs.Common.{◌≡◌, ◌∙◌, Some, ap, arith, length, subst, sym}
use Rattle.std.specs.List.{slice_get}
use Rattle.mu_eras.specs.Applied.{IsKept}
use Rattle.mu_eras.specs.Eras.{IsReplyOver}
use Rattle.mu_eras.specs.Standing.{era_of}
use Rattle.mu_eras.proofs.Kept.{unapplied}
use Rattle.mu_eras.proofs.Presents.{if_some, told_over_all}
use Rattle.mu_eras.proofs.present.Present.told.Goals as goal

pub returns-clause-told : goal.returns-clause-told
returns-clause-told c past held =
    if_some c.told.result (λ reply. slice_get c.as_slice.result.now c.args.row ≡ Some (Some reply)) (λ reply. IsReplyOver past (era_of c.args.self.now) c.args.row reply)
    (λ reply at. told_over_all past (era_of c.args.self.now) c.args.row reply (held.told c.args.row reply (ap (λ l. slice_get l c.args.row) (sym c.as_slice.ensures.value) ∙ at)))
    c.told.ensures.some

pub returns-clause-untold : goal.returns-clause-untold
returns-clause-untold c past held none =
    unapplied past c.args.self.now.engine c.args.self.now.replies.items c.args.row held.kept c.config.ensures.replicas
    (λ kept. c.told.ensures.none none (subst (λ l. IsKept l c.args.row) (sym c.as_slice.ensures.value) kept))
