use Rattle.std.proofs.Common.{sym, subst, [], ◌++◌, ◌∷◌}
use Rattle.mu_model.specs.Points.{points, bounds}
use Rattle.mu_model.specs.Reasons.{Finds}
use Rattle.mu_model.specs.declared.reason.Reason.{Reason}
use Rattle.mu_replicas.proofs.Points.{denies, tells}
use Rattle.mu_replicas.proofs.replica.Replica.why_no_verb.Goals as goal

pub returns-in-Ask : goal.returns-in-Ask
returns-in-Ask c r mine possible held start = subst (λ v. Finds c.args.config.now r mine (points c.args.config.now r mine v) c.why_no_ask.result.reason) (sym c.in-Ask.is) (c.why_no_ask.ensures r mine held start)

pub returns-in-Fence : goal.returns-in-Fence
returns-in-Fence c r mine possible held start =
    let k = c.args.config.now in
    let one = c.why_no_region.ensures r mine held start in
    subst (λ v. Finds k r mine (points k r mine v) c.needs.result.reason) (sym c.in-Fence.is)
    (c.needs.ensures k r mine (bounds r mine ++ Reason.NoRegion c.in-Fence.p ∷ []) one (λ m. tells _ _ (c.has_begun.ensures r mine held.leadership)))

pub returns-in-Min : goal.returns-in-Min
returns-in-Min c r mine possible held start = subst (λ v. Finds c.args.config.now r mine (points c.args.config.now r mine v) c.why_no_minimum.result.reason) (sym c.in-Min.is) (c.why_no_minimum.ensures r mine held start)

pub returns-in-PutMin : goal.returns-in-PutMin
returns-in-PutMin c r mine possible held start = subst (λ v. Finds c.args.config.now r mine (points c.args.config.now r mine v) c.why_no_put_minimum.result.reason) (sym c.in-PutMin.is) (c.why_no_put_minimum.ensures r mine held start)

pub returns-in-Look : goal.returns-in-Look
returns-in-Look c r mine possible held start = subst (λ v. Finds c.args.config.now r mine (points c.args.config.now r mine v) c.why_no_look.result.reason) (sym c.in-Look.is) (c.why_no_look.ensures r mine held start)

pub returns-in-PutSlot : goal.returns-in-PutSlot
returns-in-PutSlot c r mine possible held start = subst (λ v. Finds c.args.config.now r mine (points c.args.config.now r mine v) c.why_no_put.result.reason) (sym c.in-PutSlot.is) (c.why_no_put.ensures r mine possible held start)

pub returns-in-Fuo : goal.returns-in-Fuo
returns-in-Fuo c r mine possible held start = subst (λ v. Finds c.args.config.now r mine (points c.args.config.now r mine v) c.why_no_fuo.result.reason) (sym c.in-Fuo.is) (c.why_no_fuo.ensures r mine held start)

pub returns-in-RaiseFuo : goal.returns-in-RaiseFuo
returns-in-RaiseFuo c r mine possible held start = subst (λ v. Finds c.args.config.now r mine (points c.args.config.now r mine v) c.why_no_raise_fuo.result.reason) (sym c.in-RaiseFuo.is) (c.why_no_raise_fuo.ensures r mine possible held start)

pub returns-in-ReadBeat : goal.returns-in-ReadBeat
returns-in-ReadBeat c r mine possible held start = subst (λ v. Finds c.args.config.now r mine (points c.args.config.now r mine v) c.why_no_read_beat.result.reason) (sym c.in-ReadBeat.is) (c.why_no_read_beat.ensures r mine held start)

pub returns-in-WriteRow : goal.returns-in-WriteRow
returns-in-WriteRow c r mine possible held start = subst (λ v. Finds c.args.config.now r mine (points c.args.config.now r mine v) c.why_no_write_row.result.reason) (sym c.in-WriteRow.is) (c.why_no_write_row.ensures r mine held start)

pub returns-in-ReadRow : goal.returns-in-ReadRow
returns-in-ReadRow c r mine possible held start = subst (λ v. Finds c.args.config.now r mine (points c.args.config.now r mine v) c.why_no_read_row.result.reason) (sym c.in-ReadRow.is) (c.why_no_read_row.ensures r mine held start)

pub returns-in-RaiseHead : goal.returns-in-RaiseHead
returns-in-RaiseHead c r mine possible held start = subst (λ v. Finds c.args.config.now r mine (points c.args.config.now r mine v) c.why_no_raise_head.result.reason) (sym c.in-RaiseHead.is) (c.why_no_raise_head.ensures r mine held start)

pub returns-in-Close : goal.returns-in-Close
returns-in-Close c r mine possible held start =
    let k = c.args.config.now in
    let one = c.needs-in-Close.ensures k r mine (bounds r mine) start (λ m. denies _ _ (c.is_closing.ensures k.replicas r mine held.grants)) in
    subst (λ v. Finds k r mine (points k r mine v) c.needs-in-Close-2.result.reason) (sym c.in-Close.is)
    (c.needs-in-Close-2.ensures k r mine (bounds r mine ++ Reason.Closing ∷ []) one (λ m. c.is_awaited.ensures k r mine held.grants))

pub returns-in-LookTarget : goal.returns-in-LookTarget
returns-in-LookTarget c r mine possible held start =
    let k = c.args.config.now in
    let one = c.needs-in-LookTarget.ensures k r mine (bounds r mine) start (λ m. tells _ _ (c.has_to_drain.ensures k.replicas r mine held.grants)) in
    subst (λ v. Finds k r mine (points k r mine v) c.needs-in-LookTarget-2.result.reason) (sym c.in-LookTarget.is)
    (c.needs-in-LookTarget-2.ensures k r mine (bounds r mine ++ Reason.NothingToDrain ∷ []) one (λ m. denies _ _ (c.has_looked.ensures k.replicas r mine held.grants)))

pub returns-in-Drain : goal.returns-in-Drain
returns-in-Drain c r mine possible held start =
    let k = c.args.config.now in
    let one = c.needs-in-Drain.ensures k r mine (bounds r mine) start (λ m. tells _ _ (c.has_to_drain-in-Drain.ensures k.replicas r mine held.grants)) in
    let two = c.needs-in-Drain-2.ensures k r mine (bounds r mine ++ Reason.NothingToDrain ∷ []) one (λ m. tells _ _ (c.has_looked-in-Drain.ensures k.replicas r mine held.grants)) in
    subst (λ v. Finds k r mine (points k r mine v) c.needs-in-Drain-3.result.reason) (sym c.in-Drain.is)
    (c.needs-in-Drain-3.ensures k r mine (bounds r mine ++ Reason.NothingToDrain ∷ Reason.TargetNotLooked ∷ []) two (λ m. denies _ _ (c.has_drained.ensures k.replicas r mine held.grants)))

pub returns-in-Grant : goal.returns-in-Grant
returns-in-Grant c r mine possible held start = subst (λ v. Finds c.args.config.now r mine (points c.args.config.now r mine v) c.why_no_grant.result.reason) (sym c.in-Grant.is) (c.why_no_grant.ensures r mine held start)

pub returns-in-Head : goal.returns-in-Head
returns-in-Head c r mine possible held start = subst (λ v. Finds c.args.config.now r mine (points c.args.config.now r mine v) c.why_no_head.result.reason) (sym c.in-Head.is) (c.why_no_head.ensures r mine held start)

pub returns-in-ReadAsk : goal.returns-in-ReadAsk
returns-in-ReadAsk c r mine possible held start = subst (λ v. Finds c.args.config.now r mine (points c.args.config.now r mine v) c.why_no_read_ask.result.reason) (sym c.in-ReadAsk.is) (c.why_no_read_ask.ensures r mine held start)

pub returns-in-Enter : goal.returns-in-Enter
returns-in-Enter c r mine possible held start = subst (λ v. Finds c.args.config.now r mine (points c.args.config.now r mine v) c.why_no_enter.result.reason) (sym c.in-Enter.is) (c.why_no_enter.ensures r mine held start)

pub returns-in-Beat : goal.returns-in-Beat
returns-in-Beat c r mine possible held start = subst (λ v. Finds c.args.config.now r mine (points c.args.config.now r mine v) c.args.found.reason) (sym c.in-Beat.is) start
