use Rattle.std.proofs.Common.{take}
use Rattle.mu_judge.specs.Judges.{StandsForJudge}
use Rattle.mu_model.specs.Histories.{history}
use Rattle.mu_judge.proofs.explaining.explain.Given as goal

abbrev pub invariant-loop-index : goal.invariant-loop-index
invariant-loop-index l = StandsForJudge l.config (history (take l.index l.events)) l.judge
