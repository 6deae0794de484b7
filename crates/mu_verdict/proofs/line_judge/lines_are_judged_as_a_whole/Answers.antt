use Rattle.mu_verdict.proofs.TakenEvents.{told_as_a_whole}
use Rattle.mu_verdict.proofs.line_judge.lines_are_judged_as_a_whole.Goals as goal

pub returns : goal.returns
returns c = told_as_a_whole
