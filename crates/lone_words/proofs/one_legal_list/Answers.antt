use Rattle.lone_words.proofs.OneList.{one_list_law}
use Rattle.lone_words.proofs.one_legal_list.Goals as goal

pub returns : goal.returns
returns c = one_list_law
