use Rattle.std.proofs.Common.{◌∙◌}
use Rattle.kv_store.proofs.Views.{length-table}
use Rattle.kv_store.proofs.store.count_of.Goals as goal

pub returns : goal.returns
returns c = c.len.ensures.len ∙ length-table c.args.texts.now.entries c.len.ensures.unique
