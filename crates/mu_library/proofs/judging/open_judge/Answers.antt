use Rattle.std.proofs.Common.{◌<◌, arith, length, subst, sym}
use Rattle.mu_report.specs.declared.said.Said.{Said}
use Rattle.mu_top.specs.declared.asking.TheConstants.{INPUT_LIMIT}
use Rattle.mu_library.proofs.Outcomes.{ends_job, not_opened, opened, ready}
use Rattle.mu_library.specs.Calls.{EndsJob}
use Rattle.mu_library.proofs.judging.open_judge.Goals as goal

pub returns-then-job-gt-INPUT_LIMIT-clause-opens : goal.returns-then-job-gt-INPUT_LIMIT-clause-opens
returns-then-job-gt-INPUT_LIMIT-clause-opens c =
    let more : INPUT_LIMIT < length c.args.job.now = omega (arith, c.if-job-gt-INPUT_LIMIT.true) in
    not_opened _ Said.TooLong _ _ _ _ _ more c.say.ensures

pub returns-then-job-gt-INPUT_LIMIT-clause-ready : goal.returns-then-job-gt-INPUT_LIMIT-clause-ready
returns-then-job-gt-INPUT_LIMIT-clause-ready c =
    let more : INPUT_LIMIT < length c.args.job.now = omega (arith, c.if-job-gt-INPUT_LIMIT.true) in
    ready c.args.job.now _ _ _ _ _ _ (not_opened c.args.job.now Said.TooLong _ _ _ _ _ more c.say.ensures)

pub returns-in-Ok-clause-opens : goal.returns-in-Ok-clause-opens
returns-in-Ok-clause-opens c = opened _ c.in-Ok.judge _ _ _ _ _ _ c.in-Ok.ensures.opens c.keep.ensures

pub returns-in-Ok-clause-ready : goal.returns-in-Ok-clause-ready
returns-in-Ok-clause-ready c = ready c.args.job.now _ _ _ _ _ _ (opened c.args.job.now c.in-Ok.judge _ _ _ _ _ _ c.in-Ok.ensures.opens c.keep.ensures)

pub returns-in-Err-clause-opens : goal.returns-in-Err-clause-opens
returns-in-Err-clause-opens c =
    let bytes = c.args.job.now in
    not_opened bytes c.from.result _ _ _ _ _ (subst (EndsJob bytes) (sym c.from.ensures) (ends_job bytes c.in-Err.end c.in-Err.ensures.end)) c.say-in-Err.ensures

pub returns-in-Err-clause-ready : goal.returns-in-Err-clause-ready
returns-in-Err-clause-ready c =
    let bytes = c.args.job.now in
    ready bytes _ _ _ _ _ _ (not_opened bytes c.from.result _ _ _ _ _ (subst (EndsJob bytes) (sym c.from.ensures) (ends_job bytes c.in-Err.end c.in-Err.ensures.end)) c.say-in-Err.ensures)
