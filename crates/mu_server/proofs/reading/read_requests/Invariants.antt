use Rattle.std.proofs.Common.{ℕ}
use Rattle.mu_server.specs.Holding.{HoldsLife, Life}
use Rattle.mu_server.specs.Serving.{ServesOne}
use Rattle.mu_server.proofs.reading.read_requests.Given as goal

abbrev pub invariant-requests : goal.invariant-requests
invariant-requests g l = (life : Life) (number : ℕ) → HoldsLife (g.S.OrderedStore.stands l.fn.store) (g.S.OrderedStore.replicas l.fn.store) life
    → ServesOne (g.S.OrderedStore.stands l.store) (g.S.OrderedStore.replicas l.store) life number l.fn.connection l.connection
