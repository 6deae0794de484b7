use Rattle.std.proofs.Common.{◌∷◌, ◌∙◌, refl, ap, subst}
use Rattle.mu_model.specs.Histories.{max_with}
use Rattle.mu_placing.specs.FilledLogs.{IsFirstBehind}
use Rattle.mu_placing.proofs.Cover.{coverage_step}
use Rattle.mu_placing.proofs.filled_logs.Coverage.take.Goals as goal

pub returns : goal.returns
returns c c' mine config possible before after landings p held =
    let r = c.args.r in
    let e = c.args.event.now in
    let own = c.args.self.now.id in
    let behind = subst (λ n. IsFirstBehind c' r own (e ∷ mine) n c.first_behind-self.result) (c.greater_of-from.ensures ∙ ap (λ n. max_with c.fuo_in-read.result n) c.kept.ensures) (c.first_behind-self.ensures c' r (e ∷ mine) config possible after landings) in
    coverage_step c' r p e mine c.args.self.now _ c.fuo_in-read.result held refl (c.take.ensures c' r own e mine possible c.fuo_in-read.ensures (c.spot_filled-spot.ensures c' mine config possible before after landings)) c.fuo_in-read.ensures behind
