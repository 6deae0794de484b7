use Rattle.std.proofs.Common.{◌≡◌, sym, ap, ◌∙◌, ◌&&◌, true, false}
use Rattle.std.specs.Prelude.{nat_lt}
use Rattle.mu_placing.specs.Looks.{enter_time}
use Rattle.mu_model.specs.Placing.{has_looked_since}
use Rattle.mu_placing.proofs.region_looks.RegionLooks.has_looked.Goals as goal

pub returns-then-has_looked_since : goal.returns-then-has_looked_since
returns-then-has_looked_since c k r p s mine ring low held opened =
    let counts : has_looked_since k r p c.args.i mine ≡ true = sym (c.has_looked_since.ensures k r p mine ring low held) ∙ c.if-has_looked_since.true in
    ap (λ t. nat_lt c.look-look.result.good_at t) held.entered_at ∙ sym ((c.look-look.ensures k r p mine low held).entered s opened ∙ ap (λ b. b && nat_lt c.look-look.result.good_at (enter_time r p mine)) counts)

pub returns-else-has_looked_since : goal.returns-else-has_looked_since
returns-else-has_looked_since c k r p s mine ring low held opened =
    let counts : has_looked_since k r p c.args.i mine ≡ false = sym (c.has_looked_since.ensures k r p mine ring low held) ∙ c.if-has_looked_since.false in
    c.if-has_looked_since.false ∙ sym ((c.look-look.ensures k r p mine low held).entered s opened ∙ ap (λ b. b && nat_lt c.look-look.result.good_at (enter_time r p mine)) counts)
