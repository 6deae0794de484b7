use Rattle.std.proofs.Common.{sym, ◌∙◌}
use Rattle.mu_placing.proofs.Calm.{alone}
use Rattle.mu_placing.proofs.filled_logs.take_at_regions.Goals as goal

pub returns-in-Some : goal.returns-in-Some
returns-in-Some c c' mine config possible before after landings held =
    let e = c.args.event.now in
    let both = alone c' c.args.r c.in-Some.p e mine c.args.known_before.now c.args.known_after.now before after (sym c.region_alone.ensures ∙ c.in-Some.is) in
    c.take_at.ensures c' mine config possible before after landings both.0 both.1 held
