use Rattle.std.proofs.Common.{◌∙◌, ◌∷◌, ap, arith}
use Rattle.mu_agree.proofs.Possible.{parts_shorten_law}
use Rattle.mu_knowledge.proofs.Fetched.{applied_grows}
use Rattle.mu_knowledge.proofs.Placed.{event_of_rows}
use Rattle.mu_follow.specs.Kinds.{is_fuo, kind_of, shows}
use Rattle.mu_follow.proofs.Stays.{fuo_stays, knowing_stays, word_noted}
use Rattle.mu_follow.proofs.follow.Follow.note_read.Goals as goal

pub returns-clause-stands : goal.returns-clause-stands
returns-clause-stands c r mine n e verb answer possible held =
    let state = c.args.self.now in
    let k = state.config in
    let good = c.requires.config in
    let kind = ap kind_of verb in
    let own = (parts_shorten_law k r mine e possible).by_own in
    let knowing = knowing_stays k r e.by e.verb e.answer mine state.knowing (ap shows kind) held.knowing in
    let rows = c.note_read-2.ensures r mine e good verb possible (c.known.ensures k r (e ∷ mine) knowing) held.rows in
    let words = c.note_read.ensures k r mine e own verb answer (event_of_rows k r mine e good possible) held.words in
    let completion = c.count_applied.ensures r mine e good possible knowing rows held.completion in
    let grows = applied_grows k r mine e in
    let same = c.note_read-3.ensures.handed in
    let before = held.progress.handed in
    word_noted k r n e mine state c.note_read-2.new.self c.note_read.new.self c.count_applied.new.completion c.note_read-3.new.self kind held rows words completion
    (record {
      fuo = c.note_read-3.ensures.fuo ∙ (held.progress.fuo ∙ fuo_stays r e.by e.verb e.answer mine (ap is_fuo kind));
      row = c.note_read-3.ensures.row mine e verb;
      handed = omega (arith, same, before, grows);
    })
