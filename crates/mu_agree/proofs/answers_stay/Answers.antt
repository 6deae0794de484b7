use Rattle.mu_agree.proofs.Growing.{answers_stay_law}
use Rattle.mu_agree.proofs.answers_stay.Goals as goal

pub returns : goal.returns
returns c = answers_stay_law
