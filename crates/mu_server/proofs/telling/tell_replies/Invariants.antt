use Rattle.std.proofs.Common.{ℕ, []}
use Rattle.mu_server.specs.Holding.{HoldsLife, HoldsSession, Life, rows_so_far}
use Rattle.mu_server.specs.Serving.{MovesTo}
use Rattle.mu_server.specs.Sessions.{Session}
use Rattle.mu_server.proofs.telling.tell_replies.Given as goal

abbrev pub invariant-replies : goal.invariant-replies
invariant-replies g l = (life : Life) (number : ℕ) (session : Session) → HoldsLife (g.S.OrderedStore.stands l.store) (g.S.OrderedStore.replicas l.store) life
    → HoldsSession life number session l.fn.connection → MovesTo (rows_so_far life) life number [] [] session l.connection
