use Rattle.std.proofs.Common.{◌∷◌, ap, arith, rules}
use Rattle.mu_leadership.specs.Bearing.{region_named}
use Rattle.mu_leadership.specs.Leadership.{StandsForRegionNotes}
use Rattle.mu_leadership.proofs.Elsewhere.{kept_elsewhere}
use Rattle.mu_leadership.proofs.SetOne.{none_set, one_set}
use Rattle.mu_leadership.proofs.region_notes.see_at.Goals as goal

pub returns-then-p-lt7 : goal.returns-then-p-lt7
returns-then-p-lt7 c c' e mine possible is seen numbered held =
    one_set (λ q d. StandsForRegionNotes c.args.r q mine d) (λ q d. StandsForRegionNotes c.args.r q (e ∷ mine) d) c.from.result c.args.p c.args.notes.now _ c.see.new.self c.from.ensures (search rules) (c.see.ensures c' c.args.p e mine possible is seen numbered) (kept_elsewhere c.args.r c.args.p e mine (ap region_named is)) held

pub returns-else-p-lt7 : goal.returns-else-p-lt7
returns-else-p-lt7 c c' e mine possible is seen numbered held =
    none_set (λ q d. StandsForRegionNotes c.args.r q mine d) (λ q d. StandsForRegionNotes c.args.r q (e ∷ mine) d) c.args.p c.args.notes.now (omega (arith, c.if-p-lt7.false, c.told-notes)) (kept_elsewhere c.args.r c.args.p e mine (ap region_named is)) held
