use Rattle.std.proofs.Common.{◌∙◌}
use Rattle.mu_mistakes.proofs.Left.{empty_word_said}
use Rattle.mu_mistakes.proofs.flaw.empty_word.Goals as goal

pub returns : goal.returns
returns c = c.empty_place.ensures ∙ empty_word_said c.args.words.now
