use Rattle.std.proofs.Common.{arith, subst, sym, ◌∙◌}
use Rattle.mu_knowledge.specs.Offers.{IsNextRow, NamesRow}
use Rattle.mu_lead.proofs.NextRows.{client_found, no_batch, none_found}
use Rattle.mu_lead.proofs.batches.next_of.Goals as goal

pub returns-in-Some-clause-named : goal.returns-in-Some-clause-named
returns-in-Some-clause-named c = λ values good high held.
    let low = c.loop-client-test.true in
    subst (λ o. NamesRow o (λ j. IsNextRow c.args.config.now values j)) c.in-Some.is (c.next_batch.ensures.named values good (omega (arith, low, high)) held)

pub returns-in-Some-clause-listed : goal.returns-in-Some-clause-listed
returns-in-Some-clause-listed c = λ values good high held.
    let k = c.args.config.now in
    let low = c.loop-client-test.true in
    client_found k values c.args.from c.args.to c.loop-client.client c.in-Some.j c.loop-client.auto.client low (sym c.in-Some.is ∙ c.next_batch.ensures.is values good (omega (arith, low, high)) held)
    (λ w from less. no_batch k values w (λ j same row. c.loop-client.invariant values good high held j (omega (arith, same, from)) (omega (arith, same, less)) row))

pub returns-clause-none : goal.returns-clause-none
returns-clause-none c = λ none values good high held j from less row.
    let all = c.loop-client-test.false in
    c.loop-client.invariant values good high held j from (omega (arith, less, all)) row

pub returns-clause-listed : goal.returns-clause-listed
returns-clause-listed c = λ values good high held.
    let k = c.args.config.now in
    let all = c.loop-client-test.false in
    none_found k values c.args.from c.args.to (λ w from less. no_batch k values w (λ j same row. c.loop-client.invariant values good high held j (omega (arith, same, from)) (omega (arith, same, less, all)) row))
