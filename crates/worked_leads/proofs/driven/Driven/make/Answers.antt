use Rattle.std.proofs.Common.{◌∙◌, subst, sym}
use Rattle.worked_leads.specs.Driven.{Drives}
use Rattle.worked_leads.proofs.Driving.{history_after, legal_after}
use Rattle.worked_leads.proofs.driven.Driven.make.Goals as goal
use Rattle.mu_model.specs.Histories.{event_by}

pub take_put-note-requires : goal.take_put-note-requires
take_put-note-requires g c =
    let l = c.args.self.now.lead in
    let e = event_by l.id c.args.verb c.step-answer.result in
    let legal = legal_after (g.M.Memory.config c.step-answer.new.self) l.config (g.M.Memory.events c.args.memory.now) (g.M.Memory.events c.step-answer.new.self) g.past e (c.step-answer.ensures.config ∙ c.requires.1.1.0) c.requires.1.0 c.step-answer.ensures.events c.step-answer.ensures.legal in
    (c.requires.1.1.1.0, (c.requires.1.1.1.1.0, (c.requires.1.1.1.1.1.0, (legal, sym c.is_slot_put.ensures ∙ c.if-is_slot_put.true))))

pub take_other-note-requires : goal.take_other-note-requires
take_other-note-requires g c =
    let l = c.args.self.now.lead in
    let e = event_by l.id c.args.verb c.step-answer.result in
    let legal = legal_after (g.M.Memory.config c.step-answer.new.self) l.config (g.M.Memory.events c.args.memory.now) (g.M.Memory.events c.step-answer.new.self) g.past e (c.step-answer.ensures.config ∙ c.requires.1.1.0) c.requires.1.0 c.step-answer.ensures.events c.step-answer.ensures.legal in
    (c.requires.1.1.1.0, (c.requires.1.1.1.1.0, (c.requires.1.1.1.1.1.0, (legal, sym c.is_slot_put.ensures ∙ c.if-is_slot_put.false))))

pub returns-then-is_slot_put-clause-drives : goal.returns-then-is_slot_put-clause-drives
returns-then-is_slot_put-clause-drives g c =
    let e = event_by c.args.self.now.lead.id c.args.verb c.step-answer.result in
    subst (λ l. Drives l c.take_put-note.new.self) (sym (history_after (g.M.Memory.events c.args.memory.now) (g.M.Memory.events c.step-answer.new.self) g.past e c.requires.1.0 c.step-answer.ensures.events)) c.take_put-note.ensures.drives

pub returns-else-is_slot_put-clause-drives : goal.returns-else-is_slot_put-clause-drives
returns-else-is_slot_put-clause-drives g c =
    let e = event_by c.args.self.now.lead.id c.args.verb c.step-answer.result in
    subst (λ l. Drives l c.take_other-note.new.self) (sym (history_after (g.M.Memory.events c.args.memory.now) (g.M.Memory.events c.step-answer.new.self) g.past e c.requires.1.0 c.step-answer.ensures.events)) c.take_other-note.ensures.drives
