use Rattle.std.proofs.Common.{◌∷◌, subst, sym}
use Rattle.worked_leads.specs.Driven.{Beside}
use Rattle.worked_leads.proofs.Driving.{stands_aside}
use Rattle.worked_leads.proofs.driven.Driven.take_aside.Goals as goal

pub returns-then-event-self-clause-drives : goal.returns-then-event-self-clause-drives
returns-then-event-self-clause-drives c past held legal beside =
    let d = c.args.self.now in
    let e = c.args.event.now in
    let is = c.if-event-self.true in
    let stood = c.note_own.ensures past legal (subst (λ r. Beside d.lead.config r past d.own d.scores d.all) (sym is) held.beside) in
    record {
      beside = subst (λ r. Beside d.lead.config r (e ∷ past) c.note_own.new.own c.note_own.new.scores c.note_own.new.all) is stood;
      stands = stands_aside past e d.lead is (beside is) legal held.stands;
    }
