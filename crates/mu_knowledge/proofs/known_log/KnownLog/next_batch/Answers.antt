use Rattle.std.proofs.Common.{ap, sym, ◌∙◌, ℕ}
use Rattle.mu_model.specs.Contents.{row_count}
use Rattle.mu_knowledge.specs.Offers.{begins_after, first_in}
use Rattle.mu_knowledge.proofs.NextRows.{named_row, no_next_row}
use Rattle.mu_knowledge.proofs.known_log.KnownLog.next_batch.Goals as goal

pub returns-clause-is : goal.returns-clause-is
returns-clause-is c = λ values good low held.
    let k = c.args.config.now in
    c.batch_after.ensures good low held.by_client
    ∙ ap (λ (n : ℕ). first_in (begins_after k c.args.client n) 0 (row_count k)) (c.count_at.ensures k values low held)

pub returns-clause-named : goal.returns-clause-named
returns-clause-named c = λ values good low held.
    named_row c.args.config.now values c.args.client c.batch_after.result (returns-clause-is c values good low held)

pub returns-clause-none : goal.returns-clause-none
returns-clause-none c = λ values good low held none.
    no_next_row c.args.config.now values c.args.client (sym none ∙ returns-clause-is c values good low held)
