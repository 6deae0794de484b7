use Rattle.shared_steps.specs.Opening.{AreWrittenBelow}
use Rattle.shared_steps.proofs.words.first_words.Given as goal

abbrev pub invariant-loop-p : goal.invariant-loop-p
invariant-loop-p l = AreWrittenBelow l.layout l.p l.words.items
