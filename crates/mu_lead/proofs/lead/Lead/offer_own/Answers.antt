use Rattle.mu_lead.specs.declared.place.Place.{Place}
use Rattle.std.proofs.Common.{ap, ◌∙◌, ℕ, false, arith, length, refl, subst, sym, ◌+◌, ◌<◌, ◌≡◌, ◌*◌}
use Rattle.mu_lead.specs.Listing.{offer_row, or_else, own_offer, write_from}
use Rattle.mu_model.specs.Knowledge.{known}
use Rattle.mu_agree.proofs.Within.{known_few}
use Rattle.mu_knowledge.specs.Offers.{IsNextRow, NamesRow}
use Rattle.mu_lead.proofs.Due.{last_there}
use Rattle.mu_model.specs.Contents.{rest_of}
use Rattle.mu_lead.proofs.lead.Lead.offer_own.Goals as goal

pub returns-in-Some : goal.returns-in-Some
returns-in-Some c = λ counts mine s same.
    let l = c.args.self.now in
    let few = s.config.replicas.1 in
    let rows = s.config.few in
    let inside = s.inside in
    let few_known = known_few l.config l.id mine s.config s.possible in
    let row = subst (λ o. NamesRow o (λ j. IsNextRow l.config (known l.config l.id mine) j)) c.in-Some.is (subst (λ values. NamesRow c.next_offer.result (λ j. IsNextRow l.config values j)) same (c.next_offer.ensures.named s.config counts)) in
    let j = c.in-Some.j in
    let there = row.row in
    let value : c.own_value.result ≡ l.id * 4096 + j = c.own_value.ensures (omega (arith, inside, few)) (omega (arith, there, rows)) in
    let rest = c.row_rest.ensures in
    let end = last_there l.config j (rest_of l.config j) s.config there refl in
    let from = c.from.ensures in
    let last = c.saturating_add.ensures in
    let last_is : c.saturating_add.result ≡ j + rest_of l.config j = omega (arith, rest, from, last, end, rows) in
    let offered = subst (λ values. c.next_offer.result ≡ own_offer l.config l.id values (length values)) same (c.next_offer.ensures.listed (subst (λ values. length values < 65536) (sym same) few_known) s.config counts) in
    c.write_from.ensures mine s (omega (arith, last_is, end, rows))
    ∙ ap (λ (n : ℕ). write_from l.config l.id mine l.written.items j n (record { value = c.own_value.result; adopted = false })) last_is
    ∙ ap (λ (v : ℕ). write_from l.config l.id mine l.written.items j (j + rest_of l.config j) (record { value = v; adopted = false })) value
    ∙ ap (λ o. or_else o (offer_row l.config l.id mine l.written.items) Place.Rest) (sym c.in-Some.is ∙ offered)

pub returns-in-None : goal.returns-in-None
returns-in-None c = λ counts mine s same.
    let l = c.args.self.now in
    let few_known = known_few l.config l.id mine s.config s.possible in
    let offered = subst (λ values. c.next_offer.result ≡ own_offer l.config l.id values (length values)) same (c.next_offer.ensures.listed (subst (λ values. length values < 65536) (sym same) few_known) s.config counts) in
    ap (λ o. or_else o (offer_row l.config l.id mine l.written.items) Place.Rest) (sym c.in-None.is ∙ offered)
