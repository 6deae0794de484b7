use Rattle.std.proofs.Common.{rules}
use Rattle.shared_steps.proofs.Joins.{learns}
use Rattle.shared_steps.proofs.Opening.{some_word}
use Rattle.shared_steps.proofs.root.RootSeat.learn.Goals as goal

pub load-requires : goal.load-requires
load-requires c = (
  search rules,
  some_word c.words.inside.table.shared.key c.words.inside.table.shared.table_id.words c.words.invariant.is_config c.words.invariant.count,
  learns c.words.inside.table.shared.key c.words.inside.table.shared.table_id.slots c.self.inside.seat.id 0 c.self.inside.seat.me,
)
