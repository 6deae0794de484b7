use Rattle.std.proofs.Common.{arith}
use Rattle.mu_node.proofs.Telling.{row_above, row_below, row_place}
use Rattle.mu_node.proofs.replying.place_in_entry.Goals as goal

pub returns-then-row-first : goal.returns-then-row-first
returns-then-row-first c = row_below c.args.config.now c.args.v c.args.row (omega (arith, c.if-row-first.true))

pub returns-then-at-group_size : goal.returns-then-at-group_size
returns-then-at-group_size c = row_place c.args.config.now c.args.v c.args.row _ (omega arith) (omega (arith, c.if-at-group_size.true, c.group_size.ensures))

pub returns-else-at-group_size : goal.returns-else-at-group_size
returns-else-at-group_size c = row_above c.args.config.now c.args.v c.args.row (omega (arith, c.if-at-group_size.false, c.group_size.ensures, c.if-row-first.false))
