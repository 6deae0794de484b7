use Rattle.std.proofs.Common.{List, None, Some, ap, arith, length, refl, subst, sym, ℕ, ◌∙◌, ◌∷◌, ◌≡◌}
use Rattle.mu_model.specs.declared.config.Config.{Config}
use Rattle.mu_model.specs.declared.event.Event.{Event}
use Rattle.mu_model.specs.Knowledge.{commits, grown, known}
use Rattle.mu_model.proofs.Basics.{none_some}
use Rattle.mu_knowledge.specs.FilledLog.{StandsForFilledLog, filled_spot}
use Rattle.mu_knowledge.specs.KnownLog.{HoldsValues}
use Rattle.mu_knowledge.specs.declared.filled_log.FilledLog.{FilledLog}
use Rattle.mu_follow.specs.declared.follow.Follow.{Follow}
use Rattle.mu_follow.specs.declared.kind.Kind.{Kind}
use Rattle.mu_follow.specs.Completion.{HoldsCompletion}
use Rattle.mu_follow.specs.Follow.{HoldsFollow, commit_of}
use Rattle.mu_follow.specs.Kinds.{is_fuo, is_head, is_look, is_put, is_row, kind_of, put_spot}
use Rattle.mu_follow.proofs.Putting.{is_committed, put_applied, put_known, put_knowing, put_rows, spot_put}
use Rattle.mu_follow.proofs.Stays.{fuo_stays, heads_stay, log_unmoved, outrun_stays, reads_none, row_stays, words_stay}
use Rattle.mu_follow.proofs.follow.Follow.note_put.Goals as goal

-- the position that it fills, if it commits nothing
shown_spot : (k : Config) (e : Event) (mine : List Event) (values : List ℕ) → kind_of e.verb ≡ Kind.Put → commit_of k e.by mine e ≡ None → values ≡ known k e.by mine
    → put_spot e.by values e.verb e.answer ≡ filled_spot k e.by e.by mine e.by e.verb e.answer (e ∷ mine)
shown_spot k e mine values kind none is =
    let put = ap is_put kind in
    ap (λ l. put_spot e.by l e.verb e.answer) is ∙ spot_put k e.by e.by e.verb e.answer mine refl put (put_known k e.by e.by e.verb e.answer mine put none)

-- all but what is filled of the own log stays
put_noted : (k : Config) (n : ℕ) (e : Event) (mine : List Event) (state : Follow) (log : FilledLog) → kind_of e.verb ≡ Kind.Put → commit_of k e.by mine e ≡ None → HoldsFollow k e.by mine n state → StandsForFilledLog k e.by e.by (e ∷ mine) log
    → HoldsFollow k e.by (e ∷ mine) n (record state { own_log = log })
put_noted k n e mine state log kind none held filled =
    let r = e.by in
    let put = ap is_put kind in
    let same = put_known k r e.by e.verb e.answer mine put none in
    let applied_same = put_applied k r e.by e.verb e.answer mine put same in
    let long = ap length applied_same in
    record {
      config = held.config;
      replica = held.replica;
      inside = held.inside;
      steps = held.steps;
      knowing = put_knowing k r e.by e.verb e.answer mine state.knowing put (subst (λ l. HoldsValues k l state.knowing) (sym same) held.knowing.values) state.knowing refl refl held.knowing;
      rows = put_rows k r e.by e.verb e.answer mine state.rows put same held.rows;
      words = words_stay k r e.by e.verb e.answer mine state.words (ap is_row kind) held.words;
      own_log = filled;
      heads = heads_stay r e.by e.verb e.answer mine state.heads (ap is_head kind) held.heads;
      completion = subst (λ l. HoldsCompletion k l state.completion) (sym applied_same) held.completion;
      commits = record { are = held.commits.are ∙ sym (ap (grown (commits k r mine)) none); room = held.commits.room };
      outrun = held.outrun ∙ outrun_stays k r e.by e.verb e.answer mine (ap is_look kind);
      progress = record {
        fuo = held.progress.fuo ∙ fuo_stays r e.by e.verb e.answer mine (ap is_fuo kind);
        row = held.progress.row ∙ row_stays e.by e.verb e.answer mine (ap is_row kind);
        handed = omega (arith, held.progress.handed, long);
      };
    }

pub returns-in-Some-clause-stands : goal.returns-in-Some-clause-stands
returns-in-Some-clause-stands c kind mine n possible held none =
    let k = c.args.self.now.config in
    let e = c.args.event.now in
    let r = e.by in
    let spot = shown_spot k e mine c.known.result.now kind none (c.known.ensures k r mine held.knowing) in
    put_noted k n e mine c.args.self.now c.take.new.self kind none held
    (c.take.ensures k r r e mine possible (reads_none r r e.by e.verb e.answer (ap is_fuo kind)) (sym c.in-Some.is ∙ (c.spot_of_put.ensures ∙ spot)) held.own_log)

pub returns-in-None-clause-stands : goal.returns-in-None-clause-stands
returns-in-None-clause-stands c kind mine n possible held none =
    let k = c.args.self.now.config in
    let e = c.args.event.now in
    let r = e.by in
    let log = c.args.self.now.own_log in
    let spot = shown_spot k e mine c.known.result.now kind none (c.known.ensures k r mine held.knowing) in
    put_noted k n e mine c.args.self.now log kind none held
    (log_unmoved k r r e mine log (reads_none r r e.by e.verb e.answer (ap is_fuo kind)) (sym c.in-None.is ∙ (c.spot_of_put.ensures ∙ spot)) held.own_log)

pub returns-in-Some-clause-awaits : goal.returns-in-Some-clause-awaits
returns-in-Some-clause-awaits c mine n entry held some =
    let k = c.args.self.now.config in
    let e = c.args.event.now in
    let r = e.by in
    let values = c.known.ensures k r mine held.knowing in
    let done = is_committed k r e.by e.verb e.answer mine entry.0 entry.1 held.inside some in
    let shown : put_spot r (known k r mine) e.verb e.answer ≡ Some c.in-Some.i = sym (ap (λ l. put_spot r l e.verb e.answer) values) ∙ (sym c.spot_of_put.ensures ∙ c.in-Some.is) in
    absurd (none_some c.in-Some.i (sym done.unknown ∙ shown))
