use Rattle.std.proofs.Common.{rules, ◌≤◌, ◌<◌, length, ◌∙◌, arith}
use Rattle.judge_traces.proofs.Judgings.{first_cut, first_whole, judged_end, judged_some_of, judged_step}
use Rattle.judge_traces.proofs.judging.judge_bytes.Goals as goal

pub loop-trace-preserved : goal.loop-trace-preserved
loop-trace-preserved g c =
    let shorter : length c.in-Some.behind.now < length c.loop-trace.rest.now = c.in-Some.ensures.behind in
    let within : length c.loop-trace.rest.now ≤ length c.args.bytes.now = c.loop-trace.invariant.within in
    record {
      before = judged_step _ _ c.in-Some.trace.now c.in-Some.behind.now _ _ _ c.loop-trace.legal c.in_ok-legal.field-0 c.loop-trace.invariant.before c.in-Some.ensures.parts c.in_ok-legal.ensures.one;
      faults = c.in_ok-legal.ensures.same_faults ∙ c.loop-trace.invariant.faults;
      within = omega arith;
    }

pub returns-clause-all : goal.returns-clause-all
returns-clause-all g c =
    judged_end _ _ _ _ _ c.loop-trace.legal c.in_ok-legal-2.field-0 c.loop-trace.invariant.before c.in_default.ensures.parts c.in_ok-legal-2.ensures.one

pub returns-in_err-legal-clause-some : goal.returns-in_err-legal-clause-some
returns-in_err-legal-clause-some g c =
    judged_some_of _ _ c.in-Some.trace.now _ _ _ c.loop-trace.legal c.from_residual.result c.loop-trace.invariant.before (first_cut c.loop-trace.rest.now c.in-Some.trace.now c.in-Some.behind.now c.in-Some.ensures.parts) (search rules)

pub returns-in_err-legal-2-clause-some : goal.returns-in_err-legal-2-clause-some
returns-in_err-legal-2-clause-some g c =
    judged_some_of _ _ c.loop-trace.rest.now _ _ _ c.loop-trace.legal c.from_residual-in_err-legal-2.result c.loop-trace.invariant.before (first_whole c.loop-trace.rest.now c.in_default.ensures.parts) (search rules)
