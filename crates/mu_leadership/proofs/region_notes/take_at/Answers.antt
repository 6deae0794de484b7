use Rattle.std.proofs.Common.{◌∷◌, arith, rules}
use Rattle.mu_leadership.specs.Leadership.{StandsForRegionNotes}
use Rattle.mu_leadership.proofs.Elsewhere.{kept_elsewhere}
use Rattle.mu_leadership.proofs.SetOne.{none_set, one_set}
use Rattle.mu_leadership.proofs.region_notes.take_at.Goals as goal

pub returns-then-p-lt7 : goal.returns-then-p-lt7
returns-then-p-lt7 c mine other names held =
    one_set (λ q d. StandsForRegionNotes c.args.r q mine d) (λ q d. StandsForRegionNotes c.args.r q (c.args.event.now ∷ mine) d) c.from-at.result c.args.p c.args.notes.now _ c.after.result c.from-at.ensures (search rules) (c.after.ensures mine other) (kept_elsewhere c.args.r c.args.p c.args.event.now mine names) held

pub returns-else-p-lt7 : goal.returns-else-p-lt7
returns-else-p-lt7 c mine other names held =
    none_set (λ q d. StandsForRegionNotes c.args.r q mine d) (λ q d. StandsForRegionNotes c.args.r q (c.args.event.now ∷ mine) d) c.args.p c.args.notes.now (omega (arith, c.if-p-lt7.false, c.if-p-lt7.array_long)) (kept_elsewhere c.args.r c.args.p c.args.event.now mine names) held
