use Rattle.std.proofs.Common.{rules, arith}
use Rattle.mu_regions.proofs.Counts.{few_asks, one_more}
use Rattle.mu_regions.proofs.effects.note_ask.Goals as goal

pub returns-then-w-lt7 : goal.returns-then-w-lt7
returns-then-w-lt7 c past short counts =
    let small = c.if-w-lt7.true in
    let kept = counts c.from-w.result small in
    let few = few_asks c.from-w.result c.args.p past in
    one_more c.args.p c.args.event.now past c.args.asks.now c.from-w.result c.saturating_add.result (search rules) (search rules) (search rules) (omega (arith, kept, few, short, c.saturating_add.ensures)) counts
