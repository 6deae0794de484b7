use Rattle.std.proofs.Common.{refl, subst, sym, ◌≡◌}
use Rattle.mu_handle.specs.declared.holding.Held.{Held}
use Rattle.mu_library.specs.Replicas.{AsksReplica, OfReplicaIn, Shows, five_of, three}
use Rattle.mu_library.proofs.shown.shown_by.Goals as goal

pub returns-in-Replica : goal.returns-in-Replica
returns-in-Replica c =
    subst (λ (old : Held). OfReplicaIn (five_of c.shown_of.result ≡ three 0 0 0) (AsksReplica (Shows c.args.show (five_of c.shown_of.result))) old old c.shown_of.result.status) (sym c.in-Replica.is)
    (c.in-Replica.replica, refl, (refl, c.shown_of.ensures))
