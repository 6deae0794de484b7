use Rattle.std.proofs.Common.{sym, subst, arith}
use Rattle.mu_placing.specs.Looks.{HoldsFirst}
use Rattle.mu_model.proofs.Lists.{item_read}
use Rattle.mu_placing.proofs.looks.Looks.first.Goals as goal

pub returns-then-from-len : goal.returns-then-from-len
returns-then-from-len c k r mine low held =
    let long = held.positions in
    let found = item_read (λ i first. HoldsFirst r i mine first) c.args.self.now.firsts.items c.from-then-from-len.result c.args.i c.index.result.now c.from-then-from-len.ensures (omega (arith, long, low)) held.firsts in
    subst (λ first. HoldsFirst r c.args.i mine first) (sym c.index.ensures) found
