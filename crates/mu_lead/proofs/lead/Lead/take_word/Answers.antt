use Rattle.mu_lead.proofs.Keeping.{leading_calm}
use Rattle.mu_lead.proofs.StandsTaken.{stood_by}
use Rattle.mu_lead.proofs.Writes.{four}
use Rattle.mu_lead.specs.Journal.{tables_with}
use Rattle.mu_lead.specs.Lasting.{tables_of}
use Rattle.mu_lead.specs.Leading.{HoldsTables}
use Rattle.mu_lead.specs.Listing.{Tables, next_place}
use Rattle.mu_lead.specs.Noting.{next_note}
use Rattle.mu_lead.specs.Standing.{At, NumberAfter, Stands, verb_at}
use Rattle.mu_lead.specs.Stepping.{Steps}
use Rattle.mu_lead.specs.declared.lead.Lead.{Lead}
use Rattle.mu_lead.specs.declared.note.Note.{Note}
use Rattle.mu_lead.specs.declared.place.Place.{Place}
use Rattle.mu_model.proofs.Basics.{same_some}
use Rattle.mu_model.specs.Contents.{config_word}
use Rattle.mu_model.specs.Knowledge.{known}
use Rattle.mu_model.specs.Parts.{IsPossible}
use Rattle.mu_model.specs.declared.event.Verb.{Verb}
use Rattle.mu_model.specs.Histories.{event_by}
use Rattle.std.proofs.Common.{ap, arith, get_or, refl, subst, sym, ◌∙◌, ◌∷◌, ◌≡◌}
use Rattle.mu_lead.proofs.lead.Lead.take_word.Goals as goal

pub returns : goal.returns
returns c = λ values log verb a at. record {
  steps = λ mine x.
      let l = c.args.self.now in
      let k = l.config in
      let r = l.id in
      let j = c.args.j in
      let n = get_or l.written.items j 12 in
      let w = Verb.WriteRow j n (config_word k j n) in
      let now = event_by r w a ∷ mine in
      let s = x.stands in
      let here : At k r l.number mine l.up l.reach l.written.items (Place.Write j c.args.last c.args.offer) = subst (At k r l.number mine l.up l.reach l.written.items) at s.at in
      let due = ap (λ p. verb_at k l.number (known k r mine) l.up l.written.items p) at in
      let is : w ≡ verb = same_some w verb (sym due ∙ x.due) in
      let possible : IsPossible k r now = subst (λ v. IsPossible k r (event_by r v a ∷ mine)) (sym is) x.possible in
      let leading = leading_calm r r w a mine l.leading refl s.leading in
      let tables : four l.up l.reach l.heads c.count_word.new.written.items ≡ tables_with k r mine now (tables_of l) w a = ap (four l.up l.reach l.heads) (c.count_word.ensures here.1) in
      let number : NumberAfter k r l.number l.number now l.place = subst (NumberAfter k r l.number l.number now) (sym at) refl in
      let stood = stood_by l mine l.place w a l.number s refl due number possible in
      let told : Lead = record {
        config = k;
        id = r;
        named = l.named;
        failed = l.failed;
        under_way = l.under_way;
        place = l.place;
        leading = l.leading;
        number = l.number;
        up = l.up;
        reach = l.reach;
        heads = l.heads;
        written = c.count_word.new.written;
      } in
      let stands : Stands now told = record {
        possible = possible;
        config = s.config;
        inside = s.inside;
        leading = leading;
        tables = subst (λ (t : Tables). HoldsTables k r now t.up t.reach t.heads t.written) (sym tables) stood.tables;
      } in
      let writing = here.0.writing in
      let row = writing.batch.row in
      let rest = s.config.rests writing.first row in
      let last_row = writing.last_row in
      let few = s.config.few in
      let narrow = s.config.widths.1 in
      let goes = c.write_from-self.ensures now stands (omega (arith, row, rest, last_row, few, narrow)) in
      let new : Lead = record {
        config = k;
        id = r;
        named = l.named;
        failed = l.failed;
        under_way = l.under_way;
        place = c.write_from-self.result;
        leading = l.leading;
        number = l.number;
        up = l.up;
        reach = l.reach;
        heads = l.heads;
        written = c.count_word.new.written;
      } in
      subst (λ v. Steps mine l values log v a new Note.Working) is (record {
        leading = leading;
        number = number;
        tables = tables;
        place = λ holds. goes ∙ ap (λ p. next_place k r l.number now (tables_of new) a p) (sym at);
        note = subst (λ p. Note.Working ≡ next_note k r l.number mine now (tables_of l) a p) (sym at) refl;
      });
  config = refl;
  id = refl;
  named = refl;
  failed = refl;
  going = rw at refl;
}
