use Rattle.std.proofs.Common.{ap, sym, true, ◌+◌, ◌∙◌}
use Rattle.mu_knowledge.proofs.Learning.{rows_counted}
use Rattle.mu_knowledge.proofs.known_log.rows_of.Goals as goal

pub returns-then-stands_for_batch : goal.returns-then-stands_for_batch
returns-then-stands_for_batch c = ap (λ n. n + 1) (c.from.ensures ∙ c.row_rest.ensures) ∙ sym (rows_counted c.args.config.now c.args.v true (sym c.stands_for_batch.ensures ∙ c.if-stands_for_batch.true))
