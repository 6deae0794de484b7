use Rattle.std.proofs.Common.{subst}
use Rattle.std.specs.Prelude.{IfSome}
use Rattle.mu_lead.specs.Beside.{leads_at}
use Rattle.mu_node.specs.Cycle.{IsDueAt}
use Rattle.mu_node.specs.Due.{MayBeside}
use Rattle.mu_node.proofs.node.Node.background.Goals as goal

pub returns-clause-stands : goal.returns-clause-stands
returns-clause-stands c k r mine even possible held = c.hand_on.ensures.stands k r mine even possible (c.place-place.ensures k r mine held) held

pub returns-clause-due : goal.returns-clause-due
returns-clause-due c k r mine possible short even held =
    let at = c.place-place.ensures k r mine held in
    let planned = c.hand_on.ensures.stands k r mine even possible at held in
    subst (λ p. IsDueAt k r mine (leads_at c.args.self.now.lead.place) p c.due_at.result) at
    (subst (λ l. IsDueAt k r mine (leads_at l.place) c.place-place.result c.due_at.result) c.hand_on.ensures.lead (c.due_at.ensures.due k r mine possible short planned))

pub returns-clause-may : goal.returns-clause-may
returns-clause-may c k r mine possible short even held =
    let planned = c.hand_on.ensures.stands k r mine even possible (c.place-place.ensures k r mine held) held in
    subst (λ l. IfSome c.due_at.result (λ verb. MayBeside k r mine l verb)) c.hand_on.ensures.lead (c.due_at.ensures.may k r mine possible short planned)
