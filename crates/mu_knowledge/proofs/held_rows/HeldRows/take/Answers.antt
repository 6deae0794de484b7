use Rattle.std.proofs.Common.{rules}
use Rattle.mu_knowledge.proofs.Untouched.{rows_kept}
use Rattle.mu_knowledge.proofs.held_rows.HeldRows.take.Goals as goal

pub returns-in_default : goal.returns-in_default
returns-in_default c mine good possible are held = rows_kept c.args.config.now c.args.r c.args.event.now mine c.args.self.now (search rules) held

pub returns-in-WriteRow : goal.returns-in-WriteRow
returns-in-WriteRow c mine good possible are held = c.note_written.ensures mine c.args.event.now c.in-WriteRow.field-2 good (search rules) possible are held
