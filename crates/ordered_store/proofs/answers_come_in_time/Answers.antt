use Rattle.ordered_store.proofs.Going.{answers_come_in_time as law}
use Rattle.ordered_store.proofs.answers_come_in_time.Goals as goal

pub returns : goal.returns
returns c = law
