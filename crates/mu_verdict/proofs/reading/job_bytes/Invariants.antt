-- These bytes were taken of the job's lines.
use Rattle.std.proofs.Common.{length}
use Rattle.mu_verdict.proofs.JobLines.{Splits}
use Rattle.mu_verdict.specs.Traces.{HasFew}
use Rattle.mu_verdict.proofs.reading.job_bytes.Given as goal

abbrev pub invariant-loop-line : goal.invariant-loop-line
invariant-loop-line l = Splits l.fn.lines l.bytes.items l.lines × HasFew l.lines

abbrev pub decreases-loop-line : goal.decreases-loop-line
decreases-loop-line l = length l.lines.lines
