use Rattle.mu_words.proofs.Law.{word_steps_law}
use Rattle.mu_words.proofs.word_steps.Goals as goal

pub returns : goal.returns
returns c = word_steps_law
