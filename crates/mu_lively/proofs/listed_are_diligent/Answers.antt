use Rattle.mu_lively.proofs.Diligent.{listed_is_diligent}
use Rattle.mu_lively.proofs.listed_are_diligent.Goals as goal

pub returns : goal.returns
returns c = λ zeal k r mine good inside possible is. listed_is_diligent zeal k r mine good inside possible is.made is.listed
