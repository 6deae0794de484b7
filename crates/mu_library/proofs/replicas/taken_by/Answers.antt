use Rattle.std.proofs.Common.{refl, subst, sym}
use Rattle.std.specs.Prelude.{⊤}
use Rattle.mu_handle.specs.declared.holding.Held.{Held}
use Rattle.mu_library.specs.Replicas.{OfReplicaIn, TakesFound}
use Rattle.mu_library.proofs.replicas.taken_by.Goals as goal

pub returns-in-Replica : goal.returns-in-Replica
returns-in-Replica g c =
    subst (λ (old : Held). OfReplicaIn ⊤ (TakesFound g.at.0 g.at.1 c.args.word) old (Held.Replica c.take_for.new.replica) c.take_for.result) (sym c.in-Replica.is)
    (c.take_for.new.replica, refl, c.take_for.ensures)
