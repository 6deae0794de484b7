use Rattle.std.proofs.Common.{false, rules, ap, sym, ◌≡◌, ◌∙◌}
use Rattle.std.proofs.lemmas.Bool.{true≢false}
use Rattle.mu_model.specs.declared.event.Answer.{Answer}
use Rattle.mu_model.specs.declared.event.Verb.{Verb}
use Rattle.mu_model.specs.Regions.{row_word}
use Rattle.mu_agree.proofs.Possible.{answered, at_event}
use Rattle.mu_follow.specs.Kinds.{is_row, kind_of}
use Rattle.mu_follow.proofs.follow.Follow.note_row.Goals as goal

pub returns-in-WriteRow-clause-stands : goal.returns-in-WriteRow-clause-stands
returns-in-WriteRow-clause-stands c mine n kind possible held = c.note_written.ensures.stands mine n c.args.event.now c.in-WriteRow.is possible held

pub returns-in-ReadRow-clause-stands : goal.returns-in-ReadRow-clause-stands
returns-in-ReadRow-clause-stands c mine n kind possible held =
    let k = c.args.self.now.config in
    let e = c.args.event.now in
    let v = c.in-ReadRow.v in
    let word = c.in-ReadRow.word in
    let verb : e.verb ≡ Verb.ReadRow v word = c.in-ReadRow.is in
    let told : e.answer ≡ Answer.Number (row_word v word (at_event k e.by mine e possible).older) = answered k e.by mine e (Verb.ReadRow v word) possible verb in
    let read = c.number_in.ensures _ told in
    c.note_read.ensures.stands e.by mine n e verb (told ∙ ap Answer.Number (sym read)) possible held

pub returns-in_default-clause-stands : goal.returns-in_default-clause-stands
returns-in_default-clause-stands c mine n kind possible held = (let other : is_row (kind_of c.args.event.now.verb) ≡ false = search rules in absurd (true≢false (sym (ap is_row kind) ∙ other)))
