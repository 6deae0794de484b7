use Rattle.std.proofs.Common.{refl, subst, sym, ◌≡◌}
use Rattle.mu_handle.specs.declared.holding.Held.{Held}
use Rattle.mu_library.specs.Replicas.{Appends, OfReplicaIn}
use Rattle.mu_library.proofs.replicas.appended_to.Goals as goal

pub returns-in-Replica : goal.returns-in-Replica
returns-in-Replica g c =
    subst (λ (old : Held). OfReplicaIn (c.append_words.result.row ≡ 0) (Appends g.at.0 g.at.1 c.args.client c.args.line.now c.append_words.result.row) old (Held.Replica c.append_words.new.replica) c.append_words.result.status) (sym c.in-Replica.is)
    (c.append_words.new.replica, refl, c.append_words.ensures)
