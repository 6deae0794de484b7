use Rattle.std.proofs.lemmas.Nat.{mod_below}
use Rattle.std.proofs.Common.{ap, arith, inl, inr, length, subst, sym, ℕ, ◌%◌, ◌+◌, ◌∙◌, ◌≡◌}
use Rattle.std.proofs.lemmas.Bool.{cases_lt}
use Rattle.mu_model.specs.Contents.{client_of, row_count}
use Rattle.mu_knowledge.specs.Offers.{IsNextRow, NamesRow, clients_below}
use Rattle.mu_knowledge.proofs.Lasts.{below_clients}
use Rattle.mu_lead.specs.Listing.{batch_of_named, client_round}
use Rattle.mu_lead.proofs.NextRows.{no_clients, no_rows, round_found, round_on}
use Rattle.mu_lead.proofs.batches.next_offer.Goals as goal

pub returns-then-clients-eq0-clause-none : goal.returns-then-clients-eq0-clause-none
returns-then-clients-eq0-clause-none c = λ none good held j row.
    let k = c.args.config.now in
    let is = c.clients-clients.ensures.is k c.args.known.now held in
    let zero = c.if-clients-eq0.true in
    let below = below_clients k (row_count k) j row.row in
    absurd (omega (arith, is, zero, below))

pub returns-then-clients-eq0-clause-listed : goal.returns-then-clients-eq0-clause-listed
returns-then-clients-eq0-clause-listed c = λ few good held.
    let k = c.args.config.now in
    let values = c.args.known.now in
    let is = c.clients-clients.ensures.is k values held in
    let zero = c.if-clients-eq0.true in
    no_clients k values ((c.args.id + length values) % clients_below k (row_count k)) (clients_below k (row_count k)) (no_rows k (omega (arith, is, zero)))

pub returns-in-Some-clause-named : goal.returns-in-Some-clause-named
returns-in-Some-clause-named c = λ good held.
    let k = c.args.config.now in
    let values = c.args.known.now in
    subst (λ o. NamesRow o (λ j. IsNextRow k values j)) c.in-Some.is (c.next_of.ensures.named values good (c.clients-clients.ensures.few k values held) held)

pub returns-in-Some-clause-listed : goal.returns-in-Some-clause-listed
returns-in-Some-clause-listed c = λ few good held.
    let k = c.args.config.now in
    let values = c.args.known.now in
    let n = c.clients-clients.result in
    let first = (c.from.result + c.min.result) % c.from-2.result in
    let clients : n ≡ clients_below k (row_count k) = c.clients-clients.ensures.is k values held in
    let few_clients = c.clients-clients.ensures.few k values held in
    let from = c.from.ensures in
    let least = c.min.ensures in
    let sum : c.from.result + c.min.result ≡ c.args.id + length values = omega (arith, from, least, few) in
    let first_is : first ≡ (c.args.id + length values) % clients_below k (row_count k) = ap (λ (x : ℕ). x % c.from-2.result) sum ∙ ap (λ (m : ℕ). (c.args.id + length values) % m) (c.from-2.ensures ∙ clients) in
    round_found k values first n c.in-Some.j (sym c.in-Some.is ∙ c.next_of.ensures.listed values good few_clients held)
    ∙ ap (λ (m : ℕ). batch_of_named k values (client_round k values first m)) clients
    ∙ ap (λ (x : ℕ). batch_of_named k values (client_round k values x (clients_below k (row_count k)))) first_is

pub returns-in-None-clause-none : goal.returns-in-None-clause-none
returns-in-None-clause-none c = λ none good held j row.
    let k = c.args.config.now in
    let values = c.args.known.now in
    let few_clients = c.clients-clients.ensures.few k values held in
    let clients = c.clients-clients.ensures.is k values held in
    let below = below_clients k (row_count k) j row.row in
    let first = (c.from.result + c.min.result) % c.from-2.result in
    let m_is = c.from-2.ensures in
    let some = c.if-clients-eq0.false in
    let within = mod_below (c.from.result + c.min.result) c.from-2.result (omega (arith, m_is, some)) in
    elim (cases_lt (client_of k j) first) [
      | inl less ↦ c.next_of-in-None.ensures.none none values good (omega (arith, within, m_is, few_clients)) held j (omega arith) less row
      | inr more ↦ c.next_of.ensures.none c.in-None.is values good few_clients held j more (omega (arith, below, clients)) row
    ]

pub returns-in-None-clause-listed : goal.returns-in-None-clause-listed
returns-in-None-clause-listed c = λ few good held.
    let k = c.args.config.now in
    let values = c.args.known.now in
    let n = c.clients-clients.result in
    let first = (c.from.result + c.min.result) % c.from-2.result in
    let clients : n ≡ clients_below k (row_count k) = c.clients-clients.ensures.is k values held in
    let few_clients = c.clients-clients.ensures.few k values held in
    let from = c.from.ensures in
    let least = c.min.ensures in
    let sum : c.from.result + c.min.result ≡ c.args.id + length values = omega (arith, from, least, few) in
    let first_is : first ≡ (c.args.id + length values) % clients_below k (row_count k) = ap (λ (x : ℕ). x % c.from-2.result) sum ∙ ap (λ (m : ℕ). (c.args.id + length values) % m) (c.from-2.ensures ∙ clients) in
    let m_is = c.from-2.ensures in
    let some = c.if-clients-eq0.false in
    let below = mod_below (c.from.result + c.min.result) c.from-2.result (omega (arith, m_is, some)) in
    round_on k values first n c.next_of-in-None.result (sym c.in-None.is ∙ c.next_of.ensures.listed values good few_clients held) (c.next_of-in-None.ensures.listed values good (omega (arith, below, m_is, few_clients)) held)
    ∙ ap (λ (m : ℕ). batch_of_named k values (client_round k values first m)) clients
    ∙ ap (λ (x : ℕ). batch_of_named k values (client_round k values x (clients_below k (row_count k)))) first_is
