use Rattle.std.proofs.Common.{rules, ◌∷◌}
use Rattle.mu_placing.proofs.landed_puts.LandedPuts.has_taken.Goals as goal

pub returns-then-not-is_member : goal.returns-then-not-is_member
returns-then-not-is_member c c' r event mine small config possible unknown leading held = search (rules, c.is_member.ensures r (event ∷ mine) small leading)

pub returns-else-not-is_member : goal.returns-else-not-is_member
returns-else-not-is_member c c' r event mine small config possible unknown leading held =
    search (rules, c.is_member.ensures r (event ∷ mine) small leading, c.has_landed.ensures c' r event mine config possible unknown held)
