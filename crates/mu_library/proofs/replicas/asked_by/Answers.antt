use Rattle.std.proofs.Common.{refl, subst, sym, ◌≡◌}
use Rattle.mu_handle.specs.declared.holding.Held.{Held}
use Rattle.mu_library.specs.Replicas.{AsksNext, OfReplicaIn, none_asked}
use Rattle.mu_library.proofs.replicas.asked_by.Goals as goal

pub returns-in-Replica : goal.returns-in-Replica
returns-in-Replica g c =
    subst (λ (old : Held). OfReplicaIn (c.asked_of.result ≡ none_asked 1) (AsksNext g.at.0 g.at.1 c.asked_of.result) old (Held.Replica c.asked_of.new.replica) c.asked_of.result.status) (sym c.in-Replica.is)
    (c.asked_of.new.replica, refl, c.asked_of.ensures)
