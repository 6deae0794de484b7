use Rattle.std.proofs.Common.{◌∙◌}
use Rattle.kv_store.proofs.Views.{get-table_of, table_of-set}
use Rattle.kv_store.proofs.store.set.Goals as goal

pub returns-clause-before : goal.returns-clause-before
returns-clause-before c = rw c.unwrap.ensures at c.insert.ensures.old ∙ get-table_of c.args.texts.now c.args.key

pub returns-clause-table : goal.returns-clause-table
returns-clause-table c = table_of-set c.args.texts.now c.insert.new.self c.args.key c.args.text (rw c.unwrap.ensures at c.insert.ensures.updates)
