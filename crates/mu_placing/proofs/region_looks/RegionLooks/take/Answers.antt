use Rattle.std.proofs.Common.{◌≡◌, ◌∙◌, false, subst, sym}
use Rattle.mu_placing.specs.Looks.{is_at}
use Rattle.mu_placing.proofs.Elsewhere.{region_stays}
use Rattle.mu_placing.proofs.region_looks.RegionLooks.take.Goals as goal

pub returns-then-not-is_at : goal.returns-then-not-is_at
returns-then-not-is_at c k p mine ring at held =
    let other : is_at c.args.self.now.region c.args.event.now.verb ≡ false = sym c.is_at.ensures ∙ c.if-not-is_at.true in
    region_stays k c.args.r p c.args.event.now mine c.args.self.now (subst (λ q. is_at q c.args.event.now.verb ≡ false) held.region other) held
