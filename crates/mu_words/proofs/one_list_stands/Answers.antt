use Rattle.mu_words.proofs.Lists.{one_list_stands_law}
use Rattle.mu_words.proofs.one_list_stands.Goals as goal

pub returns : goal.returns
returns c = one_list_stands_law
