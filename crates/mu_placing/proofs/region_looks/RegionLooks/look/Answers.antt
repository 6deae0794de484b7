use Rattle.std.proofs.Common.{sym, subst, arith}
use Rattle.mu_placing.specs.Looks.{HoldsLook}
use Rattle.mu_model.proofs.Lists.{item_read}
use Rattle.mu_placing.proofs.region_looks.RegionLooks.look.Goals as goal

pub returns-then-from-len : goal.returns-then-from-len
returns-then-from-len c k r p mine low held =
    let long = held.positions in
    let found = item_read (λ i l. HoldsLook k r p i mine l) c.args.self.now.looks.items c.from-then-from-len.result c.args.i c.index.result.now c.from-then-from-len.ensures (omega (arith, long, low)) held.looks in
    subst (λ l. HoldsLook k r p c.args.i mine l) (sym c.index.ensures) found
