use Rattle.mu_server.specs.Holding.{HoldsLife, Life}
use Rattle.mu_server.specs.Serving.{Serves, no_bytes}
use Rattle.mu_server.proofs.server.Server.play.Given as goal

abbrev pub invariant-rounds : goal.invariant-rounds
invariant-rounds g l = (life : Life) → HoldsLife (g.S.OrderedStore.stands l.fn.self.store) (g.S.OrderedStore.replicas l.fn.self.store) life
    → Serves (g.S.OrderedStore.stands l.self.store) (g.S.OrderedStore.replicas l.self.store) life no_bytes no_bytes l.fn.self.connections.items l.self.connections.items
