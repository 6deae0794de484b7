use Rattle.std.proofs.Common.{subst, sym, ℕ}
use Rattle.mu_library.specs.Engines.{IsUntold}
use Rattle.mu_library.specs.Replicas.{AsksReplica, OfReplica, RepliesTo}
use Rattle.libmu.proofs.mu_replica_reply.Goals as goal

pub returns : goal.returns
returns c =
    let told = c.own_reply-told.result in
    let before = c.args.out.now in
    let after = c.own_reply-told.new.out in
    subst (λ (n : ℕ). OfReplica (IsUntold n before after told.taken) (AsksReplica (RepliesTo c.args.row n before after told.taken)) c.args.replica.now.held c.own_reply-told.new.handle.held c.from-2.result) (sym c.from.ensures)
    (subst (λ (s : ℕ). OfReplica (IsUntold told.reply before after told.taken) (AsksReplica (RepliesTo c.args.row told.reply before after told.taken)) c.args.replica.now.held c.own_reply-told.new.handle.held s) (sym c.from-2.ensures) c.own_reply-told.ensures)
