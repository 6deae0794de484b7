use Rattle.std.proofs.Common.{[], ◌++◌, ◌∷◌}
use Rattle.mu_model.specs.declared.reason.Reason.{Reason}
use Rattle.mu_model.specs.Histories.{history}
use Rattle.mu_model.specs.Points.{each_below, puts, values}
use Rattle.mu_model.proofs.AllMet.{met_append, met_front, met_rest}
use Rattle.mu_oracle.proofs.placing.may_put_slot.Goals as goal

pub returns : goal.returns
returns c =
    let k = c.args.config.now in
    let r = c.args.r in
    let past = history c.args.part.now in
    let front = puts k r past c.args.p c.args.i c.args.b in
    let each = each_below c.args.i (λ j. Reason.Behind c.args.p j ∷ []) in
    let late = values k r past c.args.i c.args.v in (
      λ h.
          let all = c.all_hold.ensures.0 h in
          met_append k r past front (each ++ late) (c.may_write-write.ensures.0 all.0) (met_append k r past each late (c.has_caught_up-caught_up.ensures.0 all.1) (c.is_value_for-value.ensures.0 all.2)),
      λ m.
          let rest = met_rest k r past front (each ++ late) m in
          c.all_hold.ensures.1 (c.may_write-write.ensures.1 (met_front k r past front (each ++ late) m), c.has_caught_up-caught_up.ensures.1 (met_front k r past each late rest), c.is_value_for-value.ensures.1 (met_rest k r past each late rest)),
    )
