use Rattle.mu_words.proofs.Stand.{words_are_unique_law}
use Rattle.mu_words.proofs.words_are_unique.Goals as goal

pub returns : goal.returns
returns c = words_are_unique_law
