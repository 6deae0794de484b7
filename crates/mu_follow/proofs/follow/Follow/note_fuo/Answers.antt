use Rattle.std.proofs.Common.{◌∙◌, ◌∷◌, ap, arith, false, length, refl, subst, sym}
use Rattle.mu_model.specs.Knowledge.{known}
use Rattle.mu_follow.specs.Completion.{HoldsCompletion}
use Rattle.mu_follow.specs.Kinds.{applies, is_head, is_look, is_put, teaches, is_row}
use Rattle.mu_follow.proofs.Stays.{applied_stays, commits_stay, heads_stay, outrun_stays, row_stays, rows_stay, spots_none, tells_none, words_stay}
use Rattle.mu_follow.proofs.follow.Follow.note_fuo.Goals as goal

pub returns-clause-stands : goal.returns-clause-stands
returns-clause-stands c mine n kind possible held =
    let state = c.args.self.now in
    let k = state.config in
    let e = c.args.event.now in
    let r = e.by in
    let good = c.requires.config in
    let same = applied_stays k r e.by e.verb e.answer mine (ap applies kind) in
    let long = ap length same in
    record {
      config = held.config;
      replica = held.replica;
      inside = held.inside;
      steps = held.steps;
      knowing = c.take.ensures mine good possible (tells_none k r (length (known k r mine)) e.verb (e ∷ mine) false (ap is_put kind)) held.knowing;
      rows = rows_stay k r e.by e.verb e.answer mine state.rows (ap applies kind) held.rows;
      words = words_stay k r e.by e.verb e.answer mine state.words (ap is_row kind) held.words;
      own_log = c.take-2.ensures k r r e mine possible c.fuo_in.ensures (spots_none k r r e.by e.verb e.answer mine (e ∷ mine) (ap teaches kind)) held.own_log;
      heads = heads_stay r e.by e.verb e.answer mine state.heads (ap is_head kind) held.heads;
      completion = subst (λ l. HoldsCompletion k l state.completion) (sym same) held.completion;
      commits = record { are = held.commits.are ∙ sym (commits_stay k r e.by e.verb e.answer mine (ap is_put kind)); room = held.commits.room };
      outrun = held.outrun ∙ outrun_stays k r e.by e.verb e.answer mine (ap is_look kind);
      progress = record { fuo = c.note.ensures.fuo mine refl held.progress.fuo; row = c.note.ensures.row ∙ (held.progress.row ∙ row_stays e.by e.verb e.answer mine (ap is_row kind)); handed = omega (arith, c.note.ensures.handed, held.progress.handed, long) };
    }
