use Rattle.std.proofs.Common.{◌≡◌, ◌∙◌, ◌+◌, ◌∷◌, ap, arith, get_or, length, refl, subst, sym}
use Rattle.std.proofs.lemmas.List.{get_or-set_other, get_or-set_same, length-set}
use Rattle.mu_model.specs.declared.event.Answer.{Answer}
use Rattle.mu_model.specs.Contents.{config_word}
use Rattle.mu_model.specs.Parts.{IsPossible}
use Rattle.mu_lead.specs.declared.lead.Lead.{Lead}
use Rattle.mu_lead.specs.Ahead.{ahead_event, ahead_verb}
use Rattle.mu_lead.specs.Standing.{At, StandsFor}
use Rattle.mu_lead.proofs.Ahead.{at_written, row_there}
use Rattle.mu_lead.proofs.Due.{default_is}
use Rattle.mu_lead.proofs.Keeping.{leading_calm}
use Rattle.mu_lead.proofs.Offers.{tables_row}
use Rattle.mu_lead.proofs.Others.{at_on}
use Rattle.mu_lead.proofs.Replies.{answer_is}
use Rattle.mu_lead.proofs.Writes.{four}
use Rattle.mu_lead.proofs.lead.Lead.wrote_ahead.Goals as goal

pub returns-clause-stands : goal.returns-clause-stands
returns-clause-stands c = λ mine answer s ahead may.
    let l = c.args.self.now in
    let j = c.args.j in
    let k = get_or l.written.items j 12 in
    let verb = ahead_verb l j in
    let done : answer ≡ Answer.Done = (answer_is l.config l.id verb answer mine may).1 in
    let possible = subst (λ a. IsPossible l.config l.id (ahead_event l j a ∷ mine)) done may in
    let lacks = ahead.lacks in
    let there = row_there l.written.items j lacks in
    let written = c.count_word.new.written.items in
    let is = c.count_word.ensures lacks in
    let tables = tables_row l.config l.id j k (config_word l.config j k) mine l.up l.reach l.heads l.written.items written possible s.tables (sym (default_is l.written.items j there)) (ap length is ∙ length-set l.written.items j (k + 1)) (ap (λ xs. get_or xs j 0) is ∙ get_or-set_same l.written.items j (k + 1) 0 there)
    (λ q other. ap (λ xs. get_or xs q 0) is ∙ get_or-set_other l.written.items j q (k + 1) 0 other) in
    let on = at_on l.config l.id l.number verb Answer.Done mine l.up l.reach l.written.items l.place ahead.leads refl possible s.at in
    let new : Lead = record {
      config = l.config;
      id = l.id;
      named = l.named;
      failed = l.failed;
      under_way = l.under_way;
      place = l.place;
      leading = l.leading;
      number = l.number;
      up = l.up;
      reach = l.reach;
      heads = l.heads;
      written = c.count_word.new.written;
    } in
    subst (λ a. StandsFor (ahead_event l j a ∷ mine) new) (sym done) (record {
      config = s.config;
      inside = s.inside;
      leading = leading_calm l.id l.id verb Answer.Done mine l.leading refl s.leading;
      tables = tables;
      at = at_written l.config l.id l.number (ahead_event l j Answer.Done ∷ mine) l.up l.reach l.written.items written l.place
          (λ u last offer here.
          (let after = ahead.after u last offer here in
          let inside = (subst (λ p. At l.config l.id l.number mine l.up l.reach l.written.items p) here s.at).0.inside in
          ap (λ xs. get_or xs u 12) is ∙ get_or-set_other l.written.items j u (k + 1) 12 (λ same. omega (arith, after, same, inside)))) on;
    })

pub returns-clause-tables : goal.returns-clause-tables
returns-clause-tables c = λ ahead. let l = c.args.self.now in ap (four l.up l.reach l.heads) (c.count_word.ensures ahead.lacks)
