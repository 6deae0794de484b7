use Rattle.std.proofs.Common.{length, arith, ap}
use Rattle.mu_input.proofs.Advancing.{few_lines, job_leaves}
use Rattle.mu_input.proofs.traces.EventLines.of.Goals as goal

pub invariant_of-events : goal.invariant_of-events
invariant_of-events c =
    let job = job_leaves c.new-lines.result c.read_job.new.lines c.in_ok-job.job c.in_ok-job.ensures.reading in
    (omega (arith, job, c.new-lines.ensures.number, ap length c.new-lines.ensures.lines, few_lines c.args.bytes.now, c.requires), omega arith)
