use Rattle.ordered_store.proofs.Going.{answers_stay as law}
use Rattle.ordered_store.proofs.answers_stay.Goals as goal

pub returns : goal.returns
returns c = law
