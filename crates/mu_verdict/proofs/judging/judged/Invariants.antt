use Rattle.std.proofs.Common.{length}
use Rattle.mu_verdict.proofs.JudgedEvents.{HasJudged}
use Rattle.mu_verdict.proofs.judging.judged.Given as goal

abbrev pub invariant-loop-judge : goal.invariant-loop-judge
invariant-loop-judge l = HasJudged l.bytes l.job l.lines l.judge

abbrev pub decreases-loop-judge : goal.decreases-loop-judge
decreases-loop-judge l = length l.lines.left.lines
