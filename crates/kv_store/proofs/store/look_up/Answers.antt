use Rattle.std.proofs.Common.{◌∙◌}
use Rattle.kv_store.proofs.Views.{get-table_of}
use Rattle.kv_store.proofs.store.look_up.Goals as goal

pub returns : goal.returns
returns c = c.copied.ensures ∙ c.get.ensures.value ∙ get-table_of c.args.texts.now c.args.key.now
