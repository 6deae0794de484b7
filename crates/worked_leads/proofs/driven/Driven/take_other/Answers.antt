use Rattle.std.proofs.Common.{◌∙◌, ◌∷◌, ap, subst, sym}
use Rattle.mu_model.specs.Histories.{part, event_by}
use Rattle.mu_model.specs.Knowledge.{known}
use Rattle.mu_knowledge.specs.KnownLog.{HoldsValues}
use Rattle.mu_lead.specs.Standing.{StandsFor}
use Rattle.worked_leads.proofs.Driving.{beside_same, told_other}
use Rattle.mu_model.proofs.Parts.{part_of_maker, possible_for_maker}
use Rattle.worked_leads.proofs.driven.Driven.take_other.Goals as goal

pub returns-clause-drives : goal.returns-clause-drives
returns-clause-drives g c =
    let d = c.args.self.now in
    let l = d.lead in
    let now = c.take.new.self in
    let mine = part l.id g.past in
    let e = event_by l.id c.args.verb c.args.answer in
    let legal = c.requires.1.1.1.0 in
    let own = part_of_maker e g.past in
    let possible = possible_for_maker l.config e g.past legal in
    let stood = c.note_own.ensures g.past legal c.requires.0.beside in
    let told = c.known.ensures l.config l.id (part l.id (e ∷ g.past)) stood.own_stands.known_log ∙ (ap (λ m. known l.config l.id m) own ∙ told_other l.config l.id mine c.args.verb c.args.answer c.requires.1.1.1.1) in
    let log = stood.own_stands.known_log in
    let later = part l.id (e ∷ g.past) in
    let holds = subst (λ values. HoldsValues l.config values c.note_own.new.own.known_log) (sym (c.known.ensures l.config l.id later log)) log.values in
    let stands = c.take.ensures.stands holds c.args.verb c.requires.1.1.0 possible told in
    record {
      beside = beside_same (e ∷ g.past) l now c.note_own.new.own c.note_own.new.scores c.note_own.new.all c.take.ensures.config c.take.ensures.id stood;
      stands = subst (λ i. StandsFor (part i (e ∷ g.past)) now) (sym c.take.ensures.id) (subst (λ m. StandsFor m now) (sym own) stands);
    }
