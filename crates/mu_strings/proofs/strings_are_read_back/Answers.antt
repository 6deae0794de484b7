use Rattle.mu_strings.proofs.ReadBack.{read_back}
use Rattle.mu_strings.proofs.strings_are_read_back.Goals as goal

pub returns : goal.returns
returns c = read_back
