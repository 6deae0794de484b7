use Rattle.std.proofs.Common.{◌≡◌, subst, sym, ◌∙◌}
use Rattle.std.proofs.lemmas.Bool.{false≢true}
use Rattle.kv_store.specs.Words.{IsKey}
use Rattle.mu_input.specs.Bulk.{bulk_key}
use Rattle.mu_input.proofs.BulkCommands.{IsKey-bulk_key}
use Rattle.mu_input.proofs.bulk_jobs.bulk_key.Goals as goal

pub unreachable-requires : goal.unreachable-requires
unreachable-requires c =
    let same : c.as_bytes.result.now ≡ bulk_key c.args.index = c.as_bytes.ensures.value ∙ c.in_ok-name.ensures.ok in
    false≢true (c.in_default.ensures.allowed.1 (subst IsKey (sym same) (IsKey-bulk_key c.args.index)))
