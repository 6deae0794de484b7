use Rattle.mu_words.proofs.Growing.{founds_stay_law}
use Rattle.mu_words.proofs.founds_stay.Goals as goal

pub returns : goal.returns
returns c = founds_stay_law
