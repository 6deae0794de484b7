use Rattle.std.proofs.Common.{◌≡◌, ◌∙◌, ◌∷◌, ◌++◌, [], ap, arith, length, map, subst, sym}
use Rattle.std.proofs.lemmas.List.{length-map, length_push}
use Rattle.mu_model.specs.Knowledge.{commits, grown, known}
use Rattle.mu_agree.proofs.Readings.{known_within}
use Rattle.mu_knowledge.specs.KnownLog.{HoldsValues}
use Rattle.mu_knowledge.proofs.Fetched.{applied_grows}
use Rattle.mu_knowledge.specs.Commits.{pair_of}
use Rattle.mu_follow.specs.Kinds.{is_fuo, is_head, is_look, is_row}
use Rattle.mu_follow.proofs.Kept.{few_commits, pairs_push}
use Rattle.mu_follow.proofs.Putting.{commits_by_put, is_committed, put_knowing}
use Rattle.mu_follow.proofs.Stays.{fuo_stays, heads_stay, only_put, outrun_stays, reads_none, row_stays, rows_none, words_stay}
use Rattle.mu_follow.proofs.follow.Follow.learn.Goals as goal

pub returns-clause-stands : goal.returns-clause-stands
returns-clause-stands c r mine e possible some held =
    let state = c.args.self.now in
    let k = state.config in
    let v = c.args.value in
    let good = c.requires.config in
    let done = is_committed k r e.by e.verb e.answer mine c.args.position v held.inside some in
    let put = commits_by_put k r e.by (length (known k r mine)) e.verb e.answer (e ∷ mine) (c.args.position, v) some in
    let kind = only_put e.verb put in
    let within = known_within k r (e ∷ mine) possible in
    let more = ap length done.learnt ∙ length_push (known k r mine) v in
    let values = c.learn.ensures.values (known k r mine) good (λ w is. omega (arith, within, more)) held.knowing.values in
    let knowing = put_knowing k r e.by e.verb e.answer mine c.learn.new.self put (subst (λ l. HoldsValues k l c.learn.new.self) (sym done.learnt) values) state.knowing c.learn.ensures.fuos c.learn.ensures.seen held.knowing in
    let rows = c.pass.ensures r mine e good (rows_none e.verb (ap is_row kind)) (c.known.ensures k r (e ∷ mine) knowing) held.rows in
    let grows = applied_grows k r mine e in
    let few = few_commits k r mine in
    let same : length state.commits.items ≡ length (commits k r mine) = sym (length-map state.commits.items pair_of) ∙ ap length held.commits.are in
    let pushed = c.push_within.ensures.items (omega (arith, few, within, more, same, held.commits.room)) in
    let steps = held.steps in
    record {
      config = held.config;
      replica = held.replica;
      inside = held.inside;
      steps = omega (arith, steps);
      knowing = knowing;
      rows = rows;
      words = words_stay k r e.by e.verb e.answer mine state.words (ap is_row kind) held.words;
      own_log = c.take.ensures k r r e mine possible (reads_none r r e.by e.verb e.answer (ap is_fuo kind)) (sym done.spot) held.own_log;
      heads = heads_stay r e.by e.verb e.answer mine state.heads (ap is_head kind) held.heads;
      completion = c.count_applied.ensures r mine e good possible knowing rows held.completion;
      commits = record {
        are = ap (map pair_of) pushed ∙ (pairs_push state.commits.items _ ∙ (ap (λ l. l ++ (c.args.position, v) ∷ []) held.commits.are ∙ sym (ap (grown (commits k r mine)) some)));
        room = omega (arith, held.commits.room, c.push_within.ensures.room);
      };
      outrun = held.outrun ∙ outrun_stays k r e.by e.verb e.answer mine (ap is_look kind);
      progress = record {
        fuo = held.progress.fuo ∙ fuo_stays r e.by e.verb e.answer mine (ap is_fuo kind);
        row = held.progress.row ∙ row_stays e.by e.verb e.answer mine (ap is_row kind);
        handed = omega (arith, held.progress.handed, grows);
      };
    }
