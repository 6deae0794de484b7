use Rattle.std.proofs.Common.{◌≡◌, ◌∙◌, ◌∷◌, ap, subst, sym}
use Rattle.mu_model.specs.Parts.{IsPossible}
use Rattle.mu_model.proofs.Basics.{same_some}
use Rattle.mu_model.specs.Histories.{event_by}
use Rattle.mu_follow.specs.Follow.{StandsForFollow}
use Rattle.mu_lead.specs.declared.lead.Lead.{Lead}
use Rattle.mu_lead.specs.Ahead.{IsAhead, ahead_event, ahead_verb}
use Rattle.mu_lead.specs.Beside.{leads_at}
use Rattle.mu_lead.specs.Journal.{tables_beside}
use Rattle.mu_lead.proofs.Folding.{where_ahead}
use Rattle.mu_lead.specs.Lasting.{tables_of}
use Rattle.mu_lead.specs.Standing.{StandsFor}
use Rattle.mu_node.specs.Due.{written_row}
use Rattle.mu_node.proofs.Writing.{is_written, unwritten}
use Rattle.mu_node.specs.Node.{StandsForLead}
use Rattle.mu_lead.specs.Journal.{IsWhere}
use Rattle.mu_node.specs.Cycle.{handed}
use Rattle.mu_node.proofs.Answering.{answers_stay}
use Rattle.mu_node.proofs.Leads.{beside_commits_none, beside_lead, lead_ahead, lead_stays}
use Rattle.mu_node.proofs.Where.{even_where, where_other, writes_even}
use Rattle.mu_node.proofs.node.Node.note_other.Goals as goal

pub returns-in-None-clause-stands : goal.returns-in-None-clause-stands
returns-in-None-clause-stands c mine beside ahead reads possible held =
    let k = c.args.self.now.follow.config in
    let r = c.args.by in
    let lead = c.args.self.now.lead in
    let none = unwritten c.args.verb (sym c.row_written.ensures ∙ c.in-None.is) in
    let stays = lead_stays k r mine lead c.args.verb c.args.answer none beside possible held.lead in
    record {
      beside = c.note.ensures.stands mine possible held.beside (beside_commits_none k r mine (leads_at lead.place) c.args.verb c.args.answer beside);
      lead = subst (λ l. StandsForLead k r (event_by r c.args.verb c.args.answer ∷ mine) l) (sym c.note.ensures.keeps.lead) stays;
      handed = c.note.ensures.keeps.handed ∙ held.handed;
      answers = answers_stay k r (handed k r mine) (event_by r c.args.verb c.args.answer) mine c.args.self.now.answers c.note.new.self.answers c.note.ensures.keeps.answers c.args.self.now.follow.progress.handed held.beside.follow.progress.handed held.handed held.answers;
      reads = (held.reads, reads);
    }

pub returns-in-None-clause-placed : goal.returns-in-None-clause-placed
returns-in-None-clause-placed c mine ahead idle at =
    let k = c.args.self.now.follow.config in
    let r = c.args.by in
    let none = unwritten c.args.verb (sym c.row_written.ensures ∙ c.in-None.is) in
    subst (λ l. IsWhere k r (event_by r c.args.verb c.args.answer ∷ mine) l) (sym c.note.ensures.keeps.lead) (where_other k r mine c.args.self.now.lead c.args.verb c.args.answer none idle at)

pub returns-in-Some-clause-stands : goal.returns-in-Some-clause-stands
returns-in-Some-clause-stands c mine beside ahead reads possible held =
    let k = c.args.self.now.follow.config in
    let r = c.args.by in
    let lead = c.args.self.now.lead in
    let next = c.wrote_ahead.new.self in
    let verb = c.args.verb in
    let writes = is_written verb c.in-Some.row (sym c.row_written.ensures ∙ c.in-Some.is) in
    let x = ahead writes in
    let same : x.0 ≡ c.in-Some.row = same_some x.0 c.in-Some.row (sym (ap written_row x.1.0) ∙ (sym c.row_written.ensures ∙ c.in-Some.is)) in
    let made : verb ≡ ahead_verb lead c.in-Some.row = x.1.0 ∙ ap (ahead_verb lead) same in
    let may = subst (IsAhead lead) same x.1.1 in
    let happens = subst (λ v. IsPossible k r (event_by r v c.args.answer ∷ mine)) made possible in
    let took : StandsForLead k r (event_by r (ahead_verb lead c.in-Some.row) c.args.answer ∷ mine) next =
    lead_ahead k r c.in-Some.row mine lead next c.args.answer (c.wrote_ahead.ensures.config ∙ ap (λ (l : Lead). l.config) c.note.ensures.keeps.lead) (c.wrote_ahead.ensures.id ∙ ap (λ (l : Lead). l.id) c.note.ensures.keeps.lead) happens held.lead
    (λ might. subst (λ (l : Lead). StandsFor (ahead_event l c.in-Some.row c.args.answer ∷ mine) next) c.note.ensures.keeps.lead (c.wrote_ahead.ensures.stands mine c.args.answer (subst (StandsFor mine) (sym c.note.ensures.keeps.lead) held.lead.stands) (subst (λ l. IsAhead l c.in-Some.row) (sym c.note.ensures.keeps.lead) may)
    (subst (λ (l : Lead). IsPossible l.config l.id (ahead_event l c.in-Some.row c.args.answer ∷ mine)) (sym c.note.ensures.keeps.lead) might))) in
    let stays = subst (λ v. StandsForLead k r (event_by r v c.args.answer ∷ mine) next) (sym made) took in
    let other = c.note.ensures.stands mine possible held.beside (beside_commits_none k r mine (leads_at lead.place) verb c.args.answer beside) in
    record {
      beside = beside_lead (StandsForFollow k r (event_by r verb c.args.answer ∷ mine)) k r (event_by r verb c.args.answer ∷ mine) c.note.new.self next other;
      lead = stays;
      handed = c.note.ensures.keeps.handed ∙ held.handed;
      answers = answers_stay k r (handed k r mine) (event_by r verb c.args.answer) mine c.args.self.now.answers c.note.new.self.answers c.note.ensures.keeps.answers c.args.self.now.follow.progress.handed held.beside.follow.progress.handed held.handed held.answers;
      reads = (held.reads, reads);
    }

pub returns-in-Some-clause-placed : goal.returns-in-Some-clause-placed
returns-in-Some-clause-placed c mine ahead idle at =
    let k = c.args.self.now.follow.config in
    let r = c.args.by in
    let lead = c.args.self.now.lead in
    let verb = c.args.verb in
    let writes = is_written verb c.in-Some.row (sym c.row_written.ensures ∙ c.in-Some.is) in
    let x = ahead writes in
    let same : x.0 ≡ c.in-Some.row = same_some x.0 c.in-Some.row (sym (ap written_row x.1.0) ∙ (sym c.row_written.ensures ∙ c.in-Some.is)) in
    let made : verb ≡ ahead_verb lead c.in-Some.row = x.1.0 ∙ ap (ahead_verb lead) same in
    let may = subst (IsAhead lead) same x.1.1 in
    let tables : tables_of c.wrote_ahead.new.self ≡ tables_beside (tables_of lead) verb =
    c.wrote_ahead.ensures.tables (subst (λ l. IsAhead l c.in-Some.row) (sym c.note.ensures.keeps.lead) may) ∙ (ap (λ (l : Lead). tables_beside (tables_of l) (ahead_verb l c.in-Some.row)) c.note.ensures.keeps.lead ∙ ap (tables_beside (tables_of lead)) (sym made)) in
    let place = c.wrote_ahead.ensures.place ∙ ap (λ (l : Lead). l.place) c.note.ensures.keeps.lead in
    let going = c.wrote_ahead.ensures.going ∙ ap (λ (l : Lead). l.under_way) c.note.ensures.keeps.lead in
    let even = writes_even k r mine lead verb idle writes in
    where_ahead k r mine (event_by r verb c.args.answer) lead c.wrote_ahead.new.self even place going tables (even_where k r mine lead even at)
