use Rattle.std.proofs.Common.{Ok, arith, subst, sym}
use Rattle.std.proofs.lemmas.List.{length_push}
use Rattle.std.proofs.lemmas.Result.{err_from_is_err_and}
use Rattle.mu_input.proofs.Taking.{refused_ends}
use Rattle.mu_input.specs.Traces.{ReadsOn}
use Rattle.mu_verdict.proofs.JudgedEvents.{judges_all, judges_break, judges_more}
use Rattle.mu_model.specs.Histories.{history}
use Rattle.mu_outcome.proofs.Faults.{fault_is_wrong}
use Rattle.mu_outcome.specs.Verdicts.{IsWrong}
use Rattle.mu_verdict.proofs.judging.judged.Goals as goal

pub overflow_sub-index : goal.overflow_sub-index
overflow_sub-index c =
    let held = c.loop-judge.invariant in
    let read = subst (λ found. ReadsOn c.args.bytes.now c.in_ok-job.job held.past (Ok found) c.next.new.self) c.in-Some.is (c.in_ok-event.ensures.reading _ _ _ held.read) in
    let count = read.count in
    omega (arith, count, length_push held.past c.in-Some.event, c.count-index.ensures)

pub returns-in_err-count_all-clause-end : goal.returns-in_err-count_all-clause-end
returns-in_err-count_all-clause-end c =
    let held = c.loop-judge.invariant in
    let read = subst (λ found. ReadsOn c.args.bytes.now c.in_ok-job.job held.past (Ok found) c.next.new.self) c.in-Some.is (c.in_ok-event.ensures.reading _ _ _ held.read) in
    let p = err_from_is_err_and c.from_residual-in_err-count_all.result c.from_residual-in_err-count_all.ensures.1 in
    rw (p.1, p.2) (refused_ends c.args.bytes.now c.in_err-count_all.field-0.0 (c.in_err-count_all.ensures _ _ _ read))

pub returns-in-Some-take-clause-verdict : goal.returns-in-Some-take-clause-verdict
returns-in-Some-take-clause-verdict c =
    let held = c.loop-judge.invariant in
    let read = subst (λ found. ReadsOn c.args.bytes.now c.in_ok-job.job held.past (Ok found) c.next.new.self) c.in-Some.is (c.in_ok-event.ensures.reading _ _ _ held.read) in
    let count = read.count in
    let wrong = subst (λ w. IsWrong c.in_ok-job.job.config (history held.past) c.in-Some.event w) (sym c.cause-cause.ensures) (fault_is_wrong c.in_ok-job.job.config (history held.past) c.in-Some.event c.in-Some-take.fault (c.in-Some-take.ensures _ held.stands).1) in
    judges_break c.args.bytes.now c.in_ok-job.job held.past c.in-Some.event _ c.in_ok-count_all.field-0 c.cause-cause.result (omega (arith, count, length_push held.past c.in-Some.event, c.count-index.ensures))
    (c.in_ok-count_all.ensures _ _ _ read) held.stands.legal wrong

pub loop-judge-preserved : goal.loop-judge-preserved
loop-judge-preserved c =
    let held = c.loop-judge.invariant in
    let read = subst (λ found. ReadsOn c.args.bytes.now c.in_ok-job.job held.past (Ok found) c.next.new.self) c.in-Some.is (c.in_ok-event.ensures.reading _ _ _ held.read) in
    judges_more c.args.bytes.now c.in_ok-job.job held.past c.in-Some.event c.next.new.self c.take.new.self read (c.in_default-take.ensures _ held.stands)

pub returns-clause-verdict : goal.returns-clause-verdict
returns-clause-verdict c =
    let held = c.loop-judge.invariant in
    let read = subst (λ found. ReadsOn c.args.bytes.now c.in_ok-job.job held.past (Ok found) c.next.new.self) c.in_default.is (c.in_ok-event.ensures.reading _ _ _ held.read) in
    judges_all c.args.bytes.now c.in_ok-job.job held.past c.count.result c.next.new.self read held.stands.legal c.count.ensures
