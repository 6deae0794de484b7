use Rattle.mu_lively.proofs.Diligent.{listed_has_paces}
use Rattle.mu_lively.proofs.listed_are_paced.Goals as goal

pub returns : goal.returns
returns c = λ zeal k r mine good inside possible is. listed_has_paces zeal k r mine good inside possible is.made is.listed
