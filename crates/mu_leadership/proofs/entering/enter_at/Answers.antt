use Rattle.std.proofs.Common.{◌∷◌, arith, rules}
use Rattle.mu_leadership.specs.Leadership.{StandsForRegionNotes}
use Rattle.mu_leadership.proofs.Elsewhere.{kept_elsewhere}
use Rattle.mu_leadership.proofs.Entries.{entered_named}
use Rattle.mu_leadership.proofs.SetOne.{none_set, one_set}
use Rattle.mu_leadership.proofs.entering.enter_at.Goals as goal

pub returns-then-p-lt7 : goal.returns-then-p-lt7
returns-then-p-lt7 c r e mine names target held =
    one_set (λ q d. StandsForRegionNotes r q mine d) (λ q d. StandsForRegionNotes r q (e ∷ mine) d) c.from.result c.args.p c.args.notes.now _ c.enter.new.self c.from.ensures (search rules) (c.enter.ensures r c.args.p e mine names target) (kept_elsewhere r c.args.p e mine (entered_named c.args.p e.verb names)) held

pub returns-else-p-lt7 : goal.returns-else-p-lt7
returns-else-p-lt7 c r e mine names target held =
    none_set (λ q d. StandsForRegionNotes r q mine d) (λ q d. StandsForRegionNotes r q (e ∷ mine) d) c.args.p c.args.notes.now (omega (arith, c.if-p-lt7.false, c.told-notes)) (kept_elsewhere r c.args.p e mine (entered_named c.args.p e.verb names)) held
