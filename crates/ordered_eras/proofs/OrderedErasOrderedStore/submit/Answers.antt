use Rattle.ordered_eras.proofs.Sessions.{takes_at}
use Rattle.ordered_eras.proofs.OrderedErasOrderedStore.submit.Goals as goal

pub returns-in-Ok-clause-taken : goal.returns-in-Ok-clause-taken
returns-in-Ok-clause-taken c moment at =
    takes_at c.args.self.now.eras.succession c.submit.new.self.succession moment 0 c.args.op c.in-Ok.row at c.in-Ok.ensures.row c.in-Ok.ensures.taken c.submit.ensures.here
