use Rattle.std.proofs.Common.{subst, sym, ℕ}
use Rattle.mu_library.specs.Engines.{IsUntold, OfHandle}
use Rattle.mu_library.specs.Waiting.{WaitsFor}
use Rattle.libmu.proofs.engines.mu_engine_until.Goals as goal

pub returns : goal.returns
returns c =
    let told = c.play_until-replied.result in
    let before = c.args.out.now in
    let after = c.play_until-replied.new.out in
    subst (λ (n : ℕ). OfHandle (IsUntold n before after told.taken) (WaitsFor c.args.row c.args.rounds n before after told.taken) c.args.engine.now.held c.play_until-replied.new.handle.held c.from-2.result) (sym c.from.ensures)
    (subst (λ (s : ℕ). OfHandle (IsUntold told.reply before after told.taken) (WaitsFor c.args.row c.args.rounds told.reply before after told.taken) c.args.engine.now.held c.play_until-replied.new.handle.held s) (sym c.from-2.ensures) c.play_until-replied.ensures)
