use Rattle.std.proofs.Common.{◌≡◌, ◌∙◌, ◌+◌, ◌%◌, ◌&&◌, ◌/◌, ◌==◌, None, ap, arith, sym, true}
use Rattle.std.specs.Prelude.{if◌then◌else◌}
use Rattle.mu_model.specs.Contents.{is_batch, rest_of}
use Rattle.mu_lead.specs.Ahead.{word_after, word_from}
use Rattle.mu_lead.proofs.lead.Lead.word_after.Goals as goal

pub returns-then-is_own_batch : goal.returns-then-is_own_batch
returns-then-is_own_batch c =
    let l = c.args.self.now in
    let v = c.in-Some.v in
    let own : (is_batch l.config v && (v / 4096 == l.id)) ≡ true = sym c.is_own_batch.ensures ∙ c.if-is_own_batch.true in
    let from : c.row_after.result ≡ v % 4096 + rest_of l.config (v % 4096) + 1 = c.row_after.ensures.is (omega arith) in
    c.word_from.ensures (c.row_after.ensures.few (omega arith))
    ∙ (ap (word_from l.config l.written.items) from
    ∙ (sym (ap (λ t. if t then word_from l.config l.written.items (v % 4096 + rest_of l.config (v % 4096) + 1) else None) own)
    ∙ sym (ap (word_after l.config l.id l.written.items) c.in-Some.is)))
