use Rattle.std.proofs.Common.{◌≡◌, ◌≤◌, List, ℕ, length, subst, sym, ◌∙◌}
use Rattle.std.proofs.lemmas.Bool.{false≢true}
use Rattle.kv_store.specs.Words.{IsText}
use Rattle.mu_input.specs.Bulk.{bulk_text}
use Rattle.mu_input.proofs.BulkCommands.{IsText-bulk_text, short_text}
use Rattle.mu_input.proofs.bulk_jobs.bulk_text.Goals as goal

pub unreachable-requires : goal.unreachable-requires
unreachable-requires c =
    let same : c.as_bytes.result.now ≡ bulk_text c.args.index = c.as_bytes.ensures.value ∙ c.in_ok-held.ensures.ok in
    false≢true (c.in_default.ensures.allowed.1 (subst IsText (sym same) (IsText-bulk_text c.args.index c.requires)))

pub returns-clause-short : goal.returns-clause-short
returns-clause-short c =
    let same : c.in-Some.text ≡ bulk_text c.args.index = c.in-Some.ensures.same ∙ c.as_bytes.ensures.value ∙ c.in_ok-held.ensures.ok in
    subst (λ (text : List ℕ). length text ≤ 32) (sym same) (short_text c.args.index c.requires)
