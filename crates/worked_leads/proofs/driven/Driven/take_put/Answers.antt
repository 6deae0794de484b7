use Rattle.std.proofs.Common.{◌∙◌, ◌∷◌, subst, sym}
use Rattle.mu_model.specs.Histories.{part, event_by}
use Rattle.mu_model.specs.Legal.{IsLegalHistory}
use Rattle.mu_knowledge.specs.KnownLog.{HoldsValues}
use Rattle.mu_lead.specs.Standing.{StandsFor}
use Rattle.worked_leads.specs.Driven.{Beside}
use Rattle.worked_leads.proofs.Driving.{told_put}
use Rattle.mu_model.proofs.Parts.{part_of_maker, possible_for_maker}
use Rattle.worked_leads.proofs.driven.Driven.take_put.Goals as goal

pub returns-clause-drives : goal.returns-clause-drives
returns-clause-drives g c =
    let d = c.args.self.now in
    let l = d.lead in
    let now = c.take-note.new.self in
    let mine = part l.id g.past in
    let e = event_by l.id c.args.verb c.args.answer in
    let held = c.requires.0 in
    let legal = c.requires.1.1.1.0 in
    let same = c.take-note.ensures.config in
    let own = part_of_maker e g.past in
    let possible = possible_for_maker l.config e g.past legal in
    let told = c.known.ensures l.config l.id mine held.beside.own_stands.known_log ∙ told_put l.config l.id mine c.args.verb c.args.answer c.requires.1.1.1.1 in
    let log = held.beside.own_stands.known_log in
    let holds = subst (λ values. HoldsValues l.config values c.args.self.now.own.known_log) (sym (c.known.ensures l.config l.id mine log)) log.values in
    let stands = c.take-note.ensures.stands holds c.args.verb c.requires.1.1.0 possible told in
    let stood = c.note_own.ensures g.past (subst (λ k. IsLegalHistory k (e ∷ g.past)) (sym same) legal) (subst (λ k. Beside k l.id g.past d.own d.scores d.all) (sym same) held.beside) in
    record {
      beside = subst (λ i. Beside now.config i (e ∷ g.past) c.note_own.new.own c.note_own.new.scores c.note_own.new.all) (sym c.take-note.ensures.id) stood;
      stands = subst (λ i. StandsFor (part i (e ∷ g.past)) now) (sym c.take-note.ensures.id) (subst (λ m. StandsFor m now) (sym own) stands);
    }
