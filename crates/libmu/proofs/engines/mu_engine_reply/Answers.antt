use Rattle.std.proofs.Common.{subst, sym, ℕ}
use Rattle.mu_library.specs.Engines.{Asks, IsUntold, OfHandle, Replies}
use Rattle.libmu.proofs.engines.mu_engine_reply.Goals as goal

pub returns : goal.returns
returns c =
    let told = c.row_reply-replied.result in
    let before = c.args.out.now in
    let after = c.row_reply-replied.new.out in
    subst (λ (n : ℕ). OfHandle (IsUntold n before after told.taken) (Asks (Replies c.args.row n before after told.taken)) c.args.engine.now.held c.row_reply-replied.new.handle.held c.from-2.result) (sym c.from.ensures)
    (subst (λ (s : ℕ). OfHandle (IsUntold told.reply before after told.taken) (Asks (Replies c.args.row told.reply before after told.taken)) c.args.engine.now.held c.row_reply-replied.new.handle.held s) (sym c.from-2.ensures) c.row_reply-replied.ensures)
