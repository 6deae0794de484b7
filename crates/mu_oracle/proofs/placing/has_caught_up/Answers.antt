use Rattle.std.proofs.Common.{[], ◌∙◌, ◌∷◌, sym}
use Rattle.mu_model.specs.declared.reason.Reason.{Reason}
use Rattle.mu_model.specs.Histories.{history}
use Rattle.mu_model.specs.Placing.{is_caught_up_at}
use Rattle.mu_model.proofs.Putting.{all_met}
use Rattle.mu_oracle.proofs.placing.has_caught_up.Goals as goal

pub returns : goal.returns
returns c =
    let each = all_met c.args.config.now c.args.r (history c.args.part.now) c.args.i (is_caught_up_at c.args.config.now c.args.r c.args.p (history c.args.part.now)) (λ j. Reason.Behind c.args.p j ∷ []) (λ j. (λ m. m.0, λ h. (h, tt))) in
    (λ h. each.1 (sym c.is_caught_up_below.ensures ∙ h), λ m. c.is_caught_up_below.ensures ∙ each.0 m)
