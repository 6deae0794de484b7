use Rattle.ordered_eras.proofs.Sessions.{orders_at}
use Rattle.ordered_eras.proofs.OrderedErasOrderedStore.round.Goals as goal

pub returns-clause-orders : goal.returns-clause-orders
returns-clause-orders c moment at = orders_at c.args.self.now.eras.succession c.round.new.self.succession moment at (c.round.ensures.lasts at.past at.holds)
