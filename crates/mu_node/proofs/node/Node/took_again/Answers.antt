use Rattle.std.proofs.Common.{ap, refl, subst, sym, true, ◌||◌, ◌∙◌, ◌∷◌, ◌≡◌}
use Rattle.mu_model.specs.declared.event.Verb.{Verb}
use Rattle.mu_model.specs.Knowledge.{applied, known}
use Rattle.mu_knowledge.specs.KnownLog.{HoldsValues}
use Rattle.mu_lead.specs.declared.lead.Lead.{Lead}
use Rattle.mu_lead.specs.declared.place.Place.{Place}
use Rattle.mu_lead.specs.Going.{begins_at, going_after}
use Rattle.mu_model.specs.Contents.{holds_all}
use Rattle.mu_lead.specs.Lasting.{tables_of}
use Rattle.std.specs.Prelude.{take}
use Rattle.mu_follow.specs.Follow.{StandsForFollow}
use Rattle.mu_node.specs.Answers.{HoldsAnswers}
use Rattle.mu_node.specs.Cycle.{handed}
use Rattle.mu_model.specs.Steps.{is_named}
use Rattle.mu_model.specs.Histories.{event_by}
use Rattle.mu_node.specs.Node.{StandsForLead, StandsForNode}
use Rattle.mu_node.specs.Notes.{note_at}
use Rattle.mu_lead.specs.Journal.{HasLeft}
use Rattle.mu_node.proofs.Where.{where_asked}
use Rattle.mu_node.proofs.Answering.{answers_stay}
use Rattle.mu_node.proofs.AskedAgain.{asked_due, going_asked, odd_handed}
use Rattle.mu_node.proofs.Leads.{beside_lead, lead_noted, lead_takes, led_log, led_told}
use Rattle.mu_node.proofs.node.Node.took_again.Goals as goal

pub returns-clause-stands : goal.returns-clause-stands
returns-clause-stands g c possible =
    let k = c.args.self.now.follow.config in
    let r = c.args.id in
    let mine = g.mine in
    let e = event_by r (Verb.Ask 0) c.args.answer in
    let held : StandsForNode k r mine c.args.self.now = subst (λ i. StandsForNode k i mine c.args.self.now) (sym c.requires.0) c.requires.1.1.0 in
    let odd = c.requires.1.1.1.1.1.0 in
    let named = subst (λ i. is_named k i mine ≡ true) (sym c.requires.0) c.requires.1.1.1.1.1.1.0 in
    let values = c.known-known.result.now in
    let old = c.note.new.self.lead in
    let new = c.take.new.self in
    let lead = subst (λ l. StandsForLead k r mine l) (sym c.note.ensures.keeps.lead) held.lead in
    let begins = ap (λ (l : Lead). l.place) c.note.ensures.keeps.lead ∙ c.requires.1.1.1.0 in
    let due = asked_due k r mine old named begins in
    let told = led_told k r mine (Verb.Ask 0) c.args.answer c.note.new.self values (λ none. c.note.ensures.stands mine possible held.beside none) (λ entry some. c.note.ensures.awaits mine entry possible held.beside some) (λ l n h. c.known-known.ensures k r l n h) in
    let of_config = led_log k r mine (Verb.Ask 0) c.args.answer c.note.new.self values c.log.result.now (λ none. c.note.ensures.stands mine possible held.beside none) (λ entry some. c.note.ensures.awaits mine entry possible held.beside some) (λ l n h. c.known-known.ensures k r l n h) (λ l n h. c.log.ensures k r l n h) in
    let log = subst (λ x. HoldsValues x values c.log.result.now) (sym lead.config) of_config in
    let taken = lead_takes k r mine old new (Verb.Ask 0) c.args.answer values lead c.take.ensures.config c.take.ensures.id (c.take.ensures.stands log) due possible told in
    record {
      beside = beside_lead (StandsForFollow k r (e ∷ mine)) k r (e ∷ mine) c.note.new.self new (c.note.ensures.stands mine possible held.beside refl);
      lead = taken;
      handed = c.note.ensures.keeps.handed ∙ (held.handed ∙ sym (odd_handed k r mine odd));
      answers = answers_stay k r (handed k r mine) e mine c.args.self.now.answers c.note.new.self.answers c.note.ensures.keeps.answers c.args.self.now.follow.progress.handed held.beside.follow.progress.handed (held.handed ∙ sym (odd_handed k r mine odd)) (λ commands are. subst (λ n. HoldsAnswers k commands (take n (applied k r mine)) c.args.self.now.answers) (sym (odd_handed k r mine odd)) (held.answers commands are));
      reads = (held.reads, tt);
    }

pub returns-clause-placed : goal.returns-clause-placed
returns-clause-placed g c left possible =
    let k = c.args.self.now.follow.config in
    let r = c.args.id in
    let mine = g.mine in
    let held : StandsForNode k r mine c.args.self.now = subst (λ i. StandsForNode k i mine c.args.self.now) (sym c.requires.0) c.requires.1.1.0 in
    let named = subst (λ i. is_named k i mine ≡ true) (sym c.requires.0) c.requires.1.1.1.1.1.1.0 in
    let values = c.known-known.result.now in
    let old = c.note.new.self.lead in
    let lead = subst (λ l. StandsForLead k r mine l) (sym c.note.ensures.keeps.lead) held.lead in
    let gone : HasLeft k r mine old = subst (λ l. HasLeft k r mine l) (sym c.note.ensures.keeps.lead) (subst (λ i. HasLeft k i mine c.args.self.now.lead) (sym c.requires.0) left) in
    let told = led_told k r mine (Verb.Ask 0) c.args.answer c.note.new.self values (λ none. c.note.ensures.stands mine possible held.beside none) (λ entry some. c.note.ensures.awaits mine entry possible held.beside some) (λ l n h. c.known-known.ensures k r l n h) in
    let of_config = led_log k r mine (Verb.Ask 0) c.args.answer c.note.new.self values c.log.result.now (λ none. c.note.ensures.stands mine possible held.beside none) (λ entry some. c.note.ensures.awaits mine entry possible held.beside some) (λ l n h. c.known-known.ensures k r l n h) (λ l n h. c.log.ensures k r l n h) in
    let log = subst (λ x. HoldsValues x values c.log.result.now) (sym lead.config) of_config in
    where_asked k r mine old c.take.new.self c.args.answer values lead gone c.requires.1.1.1.1.1.0 named (c.take.ensures.placed log) possible told

pub returns-clause-going : goal.returns-clause-going
returns-clause-going g c possible =
    let k = c.args.self.now.follow.config in
    let r = c.args.id in
    let mine = g.mine in
    let lead = c.args.self.now.lead in
    let held : StandsForNode k r mine c.args.self.now = subst (λ i. StandsForNode k i mine c.args.self.now) (sym c.requires.0) c.requires.1.1.0 in
    let values = c.known-known.result.now in
    let old = c.note.new.self.lead in
    let stands = subst (λ l. StandsForLead k r mine l) (sym c.note.ensures.keeps.lead) held.lead in
    let begins = ap (λ (l : Lead). l.place) c.note.ensures.keeps.lead ∙ c.requires.1.1.1.0 in
    let due = asked_due k r mine old (subst (λ i. is_named k i mine ≡ true) (sym c.requires.0) c.requires.1.1.1.1.1.1.0) begins in
    let told = led_told k r mine (Verb.Ask 0) c.args.answer c.note.new.self values (λ none. c.note.ensures.stands mine possible held.beside none) (λ entry some. c.note.ensures.awaits mine entry possible held.beside some) (λ l n h. c.known-known.ensures k r l n h) in
    let of_config = led_log k r mine (Verb.Ask 0) c.args.answer c.note.new.self values c.log.result.now (λ none. c.note.ensures.stands mine possible held.beside none) (λ entry some. c.note.ensures.awaits mine entry possible held.beside some) (λ l n h. c.known-known.ensures k r l n h) (λ l n h. c.log.ensures k r l n h) in
    let log = subst (λ x. HoldsValues x values c.log.result.now) (sym stands.config) of_config in
    let noted : c.take.result ≡ note_at k r mine (tables_of old) (Place.Ask 0) (Verb.Ask 0) c.args.answer = lead_noted k r mine old (Verb.Ask 0) c.args.answer values c.take.result stands (c.take.ensures.noted log) due possible told
    ∙ ap (λ p. note_at k r mine (tables_of old) p (Verb.Ask 0) c.args.answer) begins in
    c.take.ensures.going
    ∙ (ap (λ (l : Lead). going_after (begins_at l.place || l.under_way) c.take.result) c.note.ensures.keeps.lead
    ∙ going_asked lead.place lead.under_way (holds_all k (known k r (event_by r (Verb.Ask 0) c.args.answer ∷ mine))) c.take.result c.requires.1.1.1.0 noted)
