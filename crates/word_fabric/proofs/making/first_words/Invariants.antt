use Rattle.word_fabric.specs.Kept.{HoldsFirst}
use Rattle.word_fabric.proofs.making.first_words.Given as goal

abbrev pub invariant-loop-p : goal.invariant-loop-p
invariant-loop-p l = HoldsFirst l.layout l.p l.words.items
