use Rattle.mu_agree.proofs.Journals.{diligent_beginning}
use Rattle.mu_agree.proofs.beginnings_are_diligent.Goals as goal

pub returns : goal.returns
returns c = diligent_beginning
