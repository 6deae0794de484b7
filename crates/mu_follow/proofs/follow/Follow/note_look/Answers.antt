use Rattle.std.proofs.Common.{◌∙◌, ◌∷◌, ap, arith, false, length, sym}
use Rattle.mu_model.specs.Knowledge.{known}
use Rattle.mu_knowledge.proofs.Fetched.{applied_grows}
use Rattle.mu_follow.specs.Kinds.{is_fuo, is_head, is_put, is_row}
use Rattle.mu_follow.proofs.Stays.{commits_stay, fuo_stays, heads_stay, reads_none, row_stays, rows_none, tells_none, words_stay}
use Rattle.mu_follow.proofs.follow.Follow.note_look.Goals as goal

pub returns-clause-stands : goal.returns-clause-stands
returns-clause-stands c mine n kind possible held =
    let k = c.args.self.now.config in
    let e = c.args.event.now in
    let r = e.by in
    let good = c.requires.config in
    let before = ap length (c.known-before.ensures k r mine held.knowing) in
    let knowing = c.take.ensures mine good possible (tells_none k r (length (known k r mine)) e.verb (e ∷ mine) false (ap is_put kind)) held.knowing in
    let after = ap length (c.known-after.ensures k r (e ∷ mine) knowing) in
    let spot = c.spot_of_look.ensures k mine kind before after in
    let rows = c.pass.ensures r mine e good (rows_none e.verb (ap is_row kind)) (c.known.ensures k r (e ∷ mine) knowing) held.rows in
    let grows = applied_grows k r mine e in
    record {
      config = held.config;
      replica = held.replica;
      inside = held.inside;
      steps = held.steps;
      knowing = knowing;
      rows = rows;
      words = words_stay k r e.by e.verb e.answer mine c.args.self.now.words (ap is_row kind) held.words;
      own_log = c.take-2.ensures k r r e mine possible (reads_none r r e.by e.verb e.answer (ap is_fuo kind)) spot held.own_log;
      heads = heads_stay r e.by e.verb e.answer mine c.args.self.now.heads (ap is_head kind) held.heads;
      completion = c.count_applied.ensures r mine e good possible knowing rows held.completion;
      commits = record { are = held.commits.are ∙ sym (commits_stay k r e.by e.verb e.answer mine (ap is_put kind)); room = held.commits.room };
      outrun = c.outrun_after-self.ensures k mine before held.outrun;
      progress = record {
        fuo = held.progress.fuo ∙ fuo_stays r e.by e.verb e.answer mine (ap is_fuo kind);
        row = held.progress.row ∙ row_stays e.by e.verb e.answer mine (ap is_row kind);
        handed = omega (arith, held.progress.handed, grows);
      };
    }
