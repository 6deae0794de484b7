use Rattle.mu_lively.proofs.Diligent.{listed_advances}
use Rattle.mu_lively.proofs.listed_advance.Goals as goal

pub returns : goal.returns
returns c = λ zeal k r mine good inside possible is. listed_advances zeal k r mine good inside possible is.made is.listed
