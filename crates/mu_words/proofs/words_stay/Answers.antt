use Rattle.mu_words.proofs.Growing.{words_stay_law}
use Rattle.mu_words.proofs.words_stay.Goals as goal

pub returns : goal.returns
returns c = words_stay_law
