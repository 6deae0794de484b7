use Rattle.std.proofs.Common.{refl, subst, sym, ◌≡◌}
use Rattle.mu_handle.specs.declared.holding.Held.{Held}
use Rattle.mu_library.specs.Replicas.{AsksReplica, OfReplicaIn, TellsEvent}
use Rattle.mu_library.proofs.shown.event_in.Goals as goal

pub returns-in-Replica : goal.returns-in-Replica
returns-in-Replica c =
    subst (λ (held : Held). OfReplicaIn ((c.event_of.result.taken ≡ 0) × (c.event_of.new.out ≡ c.args.out.now)) (AsksReplica (TellsEvent c.args.out.now c.event_of.new.out c.event_of.result.taken)) held held c.event_of.result.status) (sym c.in-Replica.is)
    (c.in-Replica.replica, refl, (refl, c.event_of.ensures))
