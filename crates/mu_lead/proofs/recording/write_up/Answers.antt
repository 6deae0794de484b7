use Rattle.std.proofs.Common.{refl, subst, ◌∷◌}
use Rattle.mu_lead.specs.Stepping.{IsWritten}
use Rattle.mu_leadership.specs.Leadership.{StandsForLeadership}
use Rattle.mu_model.specs.declared.event.Verb.{Verb}
use Rattle.mu_model.specs.Histories.{event_by}
use Rattle.mu_lead.proofs.recording.write_up.Goals as goal

pub returns-in-PutSlot-Done : goal.returns-in-PutSlot-Done
returns-in-PutSlot-Done c = λ k r past seven written held.
    let put = c.in-PutSlot-Done in
    let verb = Verb.PutSlot put.p put.i put.field-2-0 put.field-3-0 in
    let w = subst (λ v. IsWritten k r past v c.args.answer c.args.known.now c.args.commits) put.is-0 written in
    let h = subst (λ a. StandsForLeadership r (event_by r verb a ∷ past) c.args.leading.now) put.is-1 (subst (λ v. StandsForLeadership r (event_by r v c.args.answer ∷ past) c.args.leading.now) put.is-0 held) in
    rw (put.is-0, put.is-1) (c.write_put.ensures k r past (event_by r verb c.args.answer ∷ past) put.field-2-0 put.field-3-0 seven w.told (λ high. w.grows put.p put.i put.field-2-0 put.field-3-0 refl put.is-1 high) h)
