use Rattle.kv_store.specs.declared.TheConstants.{TEXT_BYTES}
use Rattle.mu_input.proofs.Keys.{word-made}
use Rattle.mu_input.proofs.operations.text_of.Goals as goal

pub returns : goal.returns
returns c = word-made TEXT_BYTES c.args.bytes.now _ c.new.ensures.allowed c.new.ensures.same
