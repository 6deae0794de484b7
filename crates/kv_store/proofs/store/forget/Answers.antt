use Rattle.std.proofs.Common.{◌∙◌, sym, ap}
use Rattle.kv_store.specs.Tables.{removed}
use Rattle.kv_store.proofs.Views.{get-table_of, table_of-removed}
use Rattle.kv_store.proofs.store.forget.Goals as goal

pub returns-in-Some-clause-reply : goal.returns-in-Some-clause-reply
returns-in-Some-clause-reply c = ap removed (sym c.in-Some.is ∙ c.swap_remove.ensures.value ∙ get-table_of c.args.texts.now c.args.key.now)

pub returns-in-Some-clause-table : goal.returns-in-Some-clause-table
returns-in-Some-clause-table c = table_of-removed c.args.texts.now c.swap_remove.new.self c.args.key.now c.swap_remove.ensures.updates

pub returns-in-None-clause-reply : goal.returns-in-None-clause-reply
returns-in-None-clause-reply c = ap removed (sym c.in-None.is ∙ c.swap_remove.ensures.value ∙ get-table_of c.args.texts.now c.args.key.now)

pub returns-in-None-clause-table : goal.returns-in-None-clause-table
returns-in-None-clause-table c = table_of-removed c.args.texts.now c.swap_remove.new.self c.args.key.now c.swap_remove.ensures.updates
