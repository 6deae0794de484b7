use Rattle.mu_lead.proofs.StandsTaken.{stood_by}
use Rattle.mu_lead.proofs.Steps.{fuo_inside, goes_by, put_offer, same_tables_note, word_lacks}
use Rattle.mu_lead.proofs.Writes.{four, four_same}
use Rattle.mu_lead.specs.Journal.{heads_with, reach_with, tables_with, up_with, written_with}
use Rattle.mu_lead.specs.Lasting.{tables_of}
use Rattle.mu_lead.specs.Leading.{HoldsTables, end_of}
use Rattle.mu_lead.specs.Listing.{Tables}
use Rattle.mu_lead.specs.Noting.{next_note}
use Rattle.mu_lead.specs.Standing.{At, verb_at}
use Rattle.mu_lead.specs.Stepping.{GoesBy, HasTaken, IsWritten}
use Rattle.mu_lead.specs.declared.lead.Lead.{Lead}
use Rattle.mu_lead.specs.declared.place.Offer.{Offer}
use Rattle.mu_lead.specs.declared.place.Place.{Place}
use Rattle.mu_model.specs.Knowledge.{known}
use Rattle.mu_model.specs.declared.event.Verb.{Verb}
use Rattle.mu_model.specs.Histories.{event_by}
use Rattle.std.proofs.Common.{Some, ap, arith, refl, rules, subst, sym, ℕ, ◌∙◌, ◌∷◌, ◌≡◌}
use Rattle.std.specs.Prelude.{nat_lt}
use Rattle.mu_lead.proofs.lead.Lead.other_step.Goals as goal

pub returns : goal.returns
returns c = record {
  steps = λ mine x.
      let l = c.args.self.now in
      let k = l.config in
      let r = l.id in
      let verb = c.args.verb in
      let a = c.args.answer in
      let s = x.stands in
      let few = s.config.replicas.1 in
      let now = event_by r verb a ∷ mine in
      let values = known k r mine in
      let leading = c.tell.ensures k mine few x.possible s.leading in
      let goes = goes_by k r l.number l.failed mine l.up l.reach l.written.items c.args.known.now verb a l.place s.config s.at x.due x.possible x.told x.heeded in
      let commits : (p : ℕ) (offer : Offer) → l.place ≡ Place.Put p offer → c.commits-commits.result ≡ nat_lt (end_of k r mine) (end_of k r now) = λ p offer is.
      c.commits-commits.ensures p offer now is (subst (At k r l.number mine l.up l.reach l.written.items) is s.at).0.entering.region few leading ∙ sym (subst (GoesBy k r l.failed mine now c.args.known.now a) is goes).1 in
      let due_as : (w : Verb) → verb ≡ w → verb_at k l.number values l.up l.written.items l.place ≡ Some w = λ w is. x.due ∙ ap (λ v. Some v) is in
      let written : IsWritten k r mine verb a c.args.known.now c.commits-commits.result = record {
        told = x.told;
        region = λ p is. (let inside = fuo_inside k r l.number p mine l.up l.reach l.written.items values l.place s.at (due_as (Verb.Fuo p) is) in omega (arith, inside, few));
        grows = λ p i b v is done high. put_offer (c.commits-commits.result ≡ nat_lt (end_of k r mine) (end_of k r now)) k r l.number p i b v mine l.up l.reach l.written.items values l.place s.at (due_as (Verb.PutSlot p i b v) is) high commits;
      } in
      let ups = c.write_up.ensures k r mine s.tables.ups written leading in
      let reaches = c.write_reach.ensures s.tables.reaches in
      let heads = c.write_head.ensures s.tables.all_heads in
      let words = c.write_word.ensures (λ j w y is. word_lacks k r l.number j w y mine l.up l.reach l.written.items values l.place s.at (due_as (Verb.WriteRow j w y) is)) in
      let tables : four c.write_up.new.up c.write_reach.new.reach c.write_head.new.heads c.write_word.new.written.items ≡ tables_with k r mine now (tables_of l) verb a =
      four_same c.write_up.new.up (up_with k r mine now l.up verb a) c.write_reach.new.reach (reach_with l.reach verb a) c.write_head.new.heads (heads_with l.heads verb a) c.write_word.new.written.items (written_with l.written.items verb) ups reaches heads words in
      let number = c.next_number-self.ensures now s.config s.inside x.possible leading in
      let stood = stood_by l mine l.place verb a c.next_number-self.result s refl x.due number x.possible in
      let told : Lead = record {
        config = k;
        id = r;
        named = l.named;
        failed = l.failed;
        under_way = l.under_way;
        place = l.place;
        leading = c.tell.new.leading;
        number = l.number;
        up = c.write_up.new.up;
        reach = c.write_reach.new.reach;
        heads = c.write_head.new.heads;
        written = c.write_word.new.written;
      } in
      let taken : HasTaken mine now (tables_of l) c.args.known.now a told = record {
        at = s.at;
        stands = record {
          possible = x.possible;
          config = s.config;
          inside = s.inside;
          leading = leading;
          tables = subst (λ (t : Tables). HoldsTables k r now t.up t.reach t.heads t.written) (sym tables) stood.tables;
        };
        goes = goes;
      } in
      record {
        leading = leading;
        number = number;
        tables = tables;
        place = λ holds. c.next_place-next.ensures holds mine now (tables_of l) taken;
        note = c.note-note.ensures mine now (tables_of l) taken commits ∙ ap (λ t. next_note k r l.number mine now t a l.place) tables ∙ same_tables_note k r l.number mine now (tables_of l) values verb a l.place x.due;
      };
  config = refl;
  id = refl;
  named = refl;
  failed = refl;
  going = search rules;
}
