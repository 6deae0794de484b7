use Rattle.std.proofs.Common.{◌≡◌, ◌∙◌, ◌||◌, ◌∷◌, Some, ap, length, refl, subst, sym}
use Rattle.std.proofs.lemmas.Bool.{true≢false}
use Rattle.mu_model.specs.Contents.{IsConfig}
use Rattle.mu_model.specs.Knowledge.{grown, known}
use Rattle.mu_model.specs.Parts.{IsPossible}
use Rattle.mu_model.proofs.Basics.{none_some, same_some}
use Rattle.mu_model.specs.Histories.{event_by}
use Rattle.mu_knowledge.specs.KnownLog.{HoldsValues}
use Rattle.mu_lead.specs.declared.lead.Lead.{Lead}
use Rattle.mu_lead.specs.Going.{begins_at, going_after}
use Rattle.mu_lead.specs.Notes.{value_committed}
use Rattle.mu_lead.specs.Saying.{Says}
use Rattle.mu_lead.specs.Standing.{known_told}
use Rattle.mu_node.specs.Due.{lead_due}
use Rattle.mu_node.specs.Node.{StandsForLead}
use Rattle.mu_node.specs.Placed.{IsWherePlanned}
use Rattle.mu_lead.specs.Journal.{IsWhere}
use Rattle.mu_node.specs.Cycle.{handed}
use Rattle.mu_node.proofs.Answering.{answers_stay}
use Rattle.mu_lead.specs.Lasting.{tables_of}
use Rattle.mu_node.specs.Notes.{note_at}
use Rattle.mu_node.proofs.Leads.{lead_noted, lead_says, lead_takes, lead_tells, led_beside, led_log, led_told}
use Rattle.mu_node.proofs.Where.{led_where, where_after}
use Rattle.mu_node.proofs.node.Node.take_led.Goals as goal

pub learn-requires : goal.learn-requires
learn-requires g c = record { config = subst (λ x. IsConfig x) (sym c.note.ensures.keeps.config) c.requires.config }

pub returns : goal.returns
returns g c =
    let k = c.args.self.now.follow.config in
    let r = c.args.by in
    let verb = c.args.verb in
    let answer = c.args.answer in
    let mine = g.mine in
    let own = c.args.self.now.lead in
    let values = c.known-known.result.now in
    let old = c.note.new.self.lead in
    let beside = c.requires.planned.beside in
    let odd = c.requires.turn in
    let lead = subst (λ l. StandsForLead k r mine l) (sym c.note.ensures.keeps.lead) c.requires.planned.lead in
    let due = subst (λ l. lead_due k r mine l ≡ Some verb) (sym c.note.ensures.keeps.lead) c.requires.due in
    let told = λ (may : IsPossible k r (event_by r verb answer ∷ mine)). led_told k r mine verb answer c.note.new.self values (λ none. c.note.ensures.stands mine may beside none) (λ entry some. c.note.ensures.awaits mine entry may beside some) (λ l n h. c.known-known.ensures k r l n h) in
    let log = λ (may : IsPossible k r (event_by r verb answer ∷ mine)).
    subst (λ x. HoldsValues x values c.log.result.now) (sym lead.config) (led_log k r mine verb answer c.note.new.self values c.log.result.now (λ none. c.note.ensures.stands mine may beside none) (λ entry some. c.note.ensures.awaits mine entry may beside some) (λ l n h. c.known-known.ensures k r l n h) (λ l n h. c.log.ensures k r l n h)) in
    record {
      stands = λ reads possible.
          let held = c.requires.planned in
          let taken = lead_takes k r mine old c.take-note.new.self verb answer values lead c.take-note.ensures.config c.take-note.ensures.id (c.take-note.ensures.stands (log possible)) due possible (told possible) in
          record {
            beside = led_beside k r mine verb answer c.note.new.self c.learn.new.self c.take-note.new.self values (length values) c.take-note.result c.requires.config possible
                (λ none. c.note.ensures.stands mine possible beside none)
                (λ entry some. c.note.ensures.awaits mine entry possible beside some)
                (λ l n h. c.known-known.ensures k r l n h)
                refl
                (lead_tells k r mine old verb answer values c.take-note.result lead c.take-note.ensures.tells due possible (told possible))
                (λ none. c.learn.ensures.none none)
                (λ value is few committed waits. c.learn.ensures.stands k r mine (event_by r verb answer) value is few possible committed waits);
            lead = subst (λ l. StandsForLead k r (event_by r verb answer ∷ mine) l) (sym c.learn.ensures.keeps.lead) taken;
            handed = c.learn.ensures.keeps.handed ∙ (c.note.ensures.keeps.handed ∙ held.handed);
            answers = answers_stay k r (handed k r mine) (event_by r verb answer) mine c.args.self.now.answers c.learn.new.self.answers (c.learn.ensures.keeps.answers ∙ c.note.ensures.keeps.answers) c.args.self.now.follow.progress.handed held.beside.follow.progress.handed held.handed held.answers;
            reads = (held.reads, reads);
          };
      placed = λ planned possible.
          let at = led_where k r mine old verb odd due (subst (λ l. IsWherePlanned k r mine l) (sym c.note.ensures.keeps.lead) planned) in
          subst (λ l. IsWhere k r (event_by r verb answer ∷ mine) l) (sym c.learn.ensures.keeps.lead)
          (where_after k r mine old c.take-note.new.self verb answer values lead (c.take-note.ensures.placed (log possible)) odd due possible (told possible) at);
      zeal = c.learn.ensures.keeps.zeal ∙ c.note.ensures.keeps.zeal;
      stops = c.learn.ensures.keeps.stops ∙ c.note.ensures.keeps.stops;
      note = record {
        idle = λ none. absurd (none_some verb (sym none));
        beside = λ off. absurd (true≢false off);
        taken = λ made on some working possible.
            let same = same_some verb made some in
            let may = subst (λ v. IsPossible k r (event_by r v answer ∷ mine)) (sym same) possible in
            subst (λ v. known k r (event_by r v answer ∷ mine) ≡ grown (known_told k r mine r v answer) (value_committed c.take-note.result)) same
            (subst (λ l. known k r (event_by r verb answer ∷ mine) ≡ grown l (value_committed c.take-note.result)) (told may)
            (lead_tells k r mine old verb answer values c.take-note.result lead c.take-note.ensures.tells due may (told may)));
      };
      says = record {
        idle = λ none. absurd (none_some verb (sym none));
        beside = λ off. absurd (true≢false off);
        says = λ made on some working possible.
            let same = same_some verb made some in
            let may = subst (λ v. IsPossible k r (event_by r v answer ∷ mine)) (sym same) possible in
            subst (λ v. Says k r mine own.up own.place v answer c.take-note.result) same
            (subst (λ (l : Lead). Says k r mine l.up l.place verb answer c.take-note.result) c.note.ensures.keeps.lead
            (lead_says k r mine old verb answer values c.take-note.result lead (c.take-note.ensures.says (log may)) due may (told may)));
        noted = λ made on some working possible.
            let same = same_some verb made some in
            let may = subst (λ v. IsPossible k r (event_by r v answer ∷ mine)) (sym same) possible in
            subst (λ v. c.take-note.result ≡ note_at k r mine (tables_of own) own.place v answer) same
            (subst (λ (l : Lead). c.take-note.result ≡ note_at k r mine (tables_of l) l.place verb answer) c.note.ensures.keeps.lead
            (lead_noted k r mine old verb answer values c.take-note.result lead (c.take-note.ensures.noted (log may)) due may (told may)));
        going = λ made on some working.
            ap (λ (l : Lead). l.under_way) c.learn.ensures.keeps.lead
            ∙ (c.take-note.ensures.going ∙ ap (λ (l : Lead). going_after (begins_at l.place || l.under_way) c.take-note.result) c.note.ensures.keeps.lead);
      };
    }
