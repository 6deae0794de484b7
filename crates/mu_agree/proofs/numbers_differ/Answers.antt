use Rattle.mu_agree.proofs.Numbers.{numbers_differ_law}
use Rattle.mu_agree.proofs.numbers_differ.Goals as goal

pub returns : goal.returns
returns c = numbers_differ_law
