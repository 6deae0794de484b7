use Rattle.std.proofs.Common.{sym, ap, ◌∙◌, ◌≡◌, refl, true, false}
use Rattle.std.proofs.lemmas.Bool.{le-ltb, lt-ltb}
use Rattle.std.specs.Prelude.{nat_lt}
use Rattle.mu_placing.specs.Looks.{joining_time}
use Rattle.mu_placing.proofs.region_looks.RegionLooks.last_look.Goals as goal

pub returns-then-joined_at-look : goal.returns-then-joined_at-look
returns-then-joined_at-look c k r p mine joined low held =
    let later : nat_lt (joining_time r mine) c.look-look.result.made_at ≡ true = ap (λ t. nat_lt t c.look-look.result.made_at) (sym joined) ∙ lt-ltb c.args.joined_at c.look-look.result.made_at c.if-joined_at-look.true in
    sym ((c.look-look.ensures k r p mine low held).seen ∙ rw later refl)

pub returns-else-joined_at-look : goal.returns-else-joined_at-look
returns-else-joined_at-look c k r p mine joined low held =
    let earlier : nat_lt (joining_time r mine) c.look-look.result.made_at ≡ false = ap (λ t. nat_lt t c.look-look.result.made_at) (sym joined) ∙ le-ltb c.args.joined_at c.look-look.result.made_at c.if-joined_at-look.false in
    sym ((c.look-look.ensures k r p mine low held).seen ∙ rw earlier refl)
