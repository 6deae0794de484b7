use Rattle.std.proofs.Common.{◌∙◌, refl, subst, sym}
use Rattle.mu_model.specs.Histories.{history, event_by}
use Rattle.worked_leads.specs.Driven.{Drives}
use Rattle.worked_leads.proofs.Driving.{history_after, legal_after}
use Rattle.worked_leads.proofs.driven.Driven.aside.Goals as goal

pub returns-then-may-clause-drives : goal.returns-then-may-clause-drives
returns-then-may-clause-drives g c =
    let old = g.M.Memory.events c.args.memory.now in
    let now = g.M.Memory.events c.step-answer.new.self in
    let e = event_by c.args.by c.args.verb c.step-answer.result in
    let legal = legal_after (g.M.Memory.config c.step-answer.new.self) c.args.self.now.lead.config old now (history old) e (c.step-answer.ensures.config ∙ c.requires.config) refl c.step-answer.ensures.events c.step-answer.ensures.legal in
    subst (λ l. Drives l c.take_aside.new.self) (sym (history_after old now (history old) e refl c.step-answer.ensures.events))
    (c.take_aside.ensures.drives (history old) c.requires.drives legal (c.may.ensures.beside c.if-may.true))
