use Rattle.shared_fabric.proofs.Gathers.{staying_is_enough_law}
use Rattle.shared_fabric.proofs.staying_is_enough.Goals as goal

pub returns : goal.returns
returns c = staying_is_enough_law
