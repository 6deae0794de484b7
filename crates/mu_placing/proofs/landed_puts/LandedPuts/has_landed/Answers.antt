use Rattle.std.proofs.Common.{◌∙◌, ◌∷◌, ap}
use Rattle.mu_placing.specs.LandedPuts.{is_entry}
use Rattle.mu_placing.proofs.Alike.{last_tells_all}
use Rattle.mu_placing.proofs.landed_puts.LandedPuts.has_landed.Goals as goal

pub returns : goal.returns
returns c c' r event mine config possible unknown held =
    c.is_same.ensures ∙ ap (λ o. is_entry o c.args.b c.args.v) (c.last.ensures c' r (event ∷ mine) config possible held) ∙ last_tells_all c' r c.args.p c.args.i c.args.b c.args.v event mine possible unknown
