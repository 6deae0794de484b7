use Rattle.mu_server.specs.Holding.{HoldsLife, Life}
use Rattle.mu_server.specs.Serving.{Serves, no_bytes}
use Rattle.mu_server.proofs.rounds.tell_all.Given as goal

abbrev pub invariant-all : goal.invariant-all
invariant-all g l = (life : Life) → HoldsLife (g.S.OrderedStore.stands l.store) (g.S.OrderedStore.replicas l.store) life
    → Serves (g.S.OrderedStore.stands l.store) (g.S.OrderedStore.replicas l.store) life no_bytes no_bytes l.fn.connections l.connections
