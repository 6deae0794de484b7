use Rattle.std.proofs.Common.{refl, subst, sym}
use Rattle.mu_handle.specs.declared.holding.Held.{Held}
use Rattle.mu_library.specs.Engines.{IsUntold}
use Rattle.mu_library.specs.Replicas.{AsksReplica, OfReplicaIn, RepliesTo}
use Rattle.mu_library.proofs.shown.reply_in.Goals as goal

pub returns-in-Replica : goal.returns-in-Replica
returns-in-Replica c =
    let told = c.reply_of.result in
    subst (λ (held : Held). OfReplicaIn (IsUntold told.reply c.args.out.now c.reply_of.new.out told.taken) (AsksReplica (RepliesTo c.args.row told.reply c.args.out.now c.reply_of.new.out told.taken)) held held told.status) (sym c.in-Replica.is)
    (c.in-Replica.replica, refl, (refl, c.reply_of.ensures))
