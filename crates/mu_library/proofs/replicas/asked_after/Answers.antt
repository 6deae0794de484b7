use Rattle.std.proofs.Common.{refl, subst, sym, ◌≡◌}
use Rattle.mu_handle.specs.declared.holding.Held.{Held}
use Rattle.mu_library.specs.Replicas.{OfReplicaIn, TakesNextFound, none_asked}
use Rattle.mu_library.proofs.replicas.asked_after.Goals as goal

pub returns-in-Replica : goal.returns-in-Replica
returns-in-Replica g c =
    subst (λ (old : Held). OfReplicaIn (c.next_after.result ≡ none_asked 1) (TakesNextFound g.at.0 g.at.1 c.args.word c.next_after.result) old (Held.Replica c.next_after.new.replica) c.next_after.result.status) (sym c.in-Replica.is)
    (c.next_after.new.replica, refl, c.next_after.ensures)
