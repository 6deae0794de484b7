use Rattle.ordered_store.proofs.Going.{moments_go_on as law}
use Rattle.ordered_store.proofs.moments_go_on.Goals as goal

pub returns : goal.returns
returns c = law
