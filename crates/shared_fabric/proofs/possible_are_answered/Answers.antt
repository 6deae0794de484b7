use Rattle.shared_fabric.proofs.Answering.{possible_are_answered_law}
use Rattle.shared_fabric.proofs.possible_are_answered.Goals as goal

pub returns : goal.returns
returns c = possible_are_answered_law
