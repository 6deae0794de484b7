use Rattle.judge_traces.proofs.Judgings.{judged_one, judged_part}
use Rattle.judge_traces.proofs.judging.judge_trace.Goals as goal

pub returns-clause-one : goal.returns-clause-one
returns-clause-one g c =
    judged_one _ c.judge-said.result _ _ _ c.judge-said.ensures.says c.print_verdict.ensures.whole c.print_verdict.ensures.legal

pub returns-clause-part : goal.returns-clause-part
returns-clause-part g c =
    judged_part _ c.judge-said.result _ _ _ c.judge-said.ensures.says c.print_verdict.ensures.part c.print_verdict.ensures.short
