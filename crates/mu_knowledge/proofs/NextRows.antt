-- The row of a client's next batch, as it is searched for.
use Rattle.std.proofs.Common.{◌≡◌, ℕ, ◌+◌, ◌<◌, true, ◌==◌, List, None, Some, is_some, ap, refl, subst, sym, ◌∙◌, arith, eqb-true, eq-eqb, true≢false}
use Rattle.std.specs.declared.option.Option.{Option}
use Rattle.mu_model.proofs.Basics.{same_some}
use Rattle.std.proofs.lemmas.Bool.{and_from, and_parts, false_from_ne_true}
use Rattle.mu_model.specs.declared.config.Config.{Config}
use Rattle.mu_model.specs.Contents.{IsConfig, begins_batch, client_of, command_count, number_of, row_count, rows_before}
use Rattle.mu_agree.proofs.NextBatch.{same_number_same_row}
use Rattle.mu_knowledge.specs.Offers.{IsAfter, IsFirst, IsNextRow, NamesRow, StandsForClientRows, batch_of, begins_after, first_in, noted_row}
use Rattle.mu_knowledge.specs.declared.client_rows.ClientRows.{ClientRows}
use Rattle.mu_knowledge.proofs.Firsts.{first_in_is, found_is}
use Rattle.mu_knowledge.proofs.Starts.{row_near}

pub passes_after : (c : Config) (client count j : ℕ) → IsAfter c client count j → begins_after c client count j ≡ true
passes_after c client count j is = and_from (begins_batch c j) _ is.1 (and_from (client_of c j == client) (number_of c j == count + 1) (eq-eqb (client_of c j) client is.2) (eq-eqb (number_of c j) (count + 1) is.3))

pub after_passes : (c : Config) (client count j : ℕ) → j < row_count c → begins_after c client count j ≡ true → IsAfter c client count j
after_passes c client count j low is =
    let two = and_parts (begins_batch c j) _ is in
    let three = and_parts (client_of c j == client) (number_of c j == count + 1) two.1 in
    (low, two.0, eqb-true (client_of c j) client three.0, eqb-true (number_of c j) (count + 1) three.1)

-- the row that was found is the first one
first_row : (c : Config) (client count : ℕ) (o : Option ℕ) → NamesRow o (λ j. IsAfter c client count j) → NamesRow o (λ j. (k : ℕ) → k < j → IsAfter c client count k → ⊥) → (o ≡ None → (j : ℕ) → IsAfter c client count j → ⊥) → o ≡ first_in (begins_after c client count) 0 (row_count c)
first_row c client count None named least none = found_is (begins_after c client count) 0 (row_count c) None (λ k from low. false_from_ne_true (begins_after c client count k) (λ is. none refl k (after_passes c client count k low is)))
first_row c client count (Some j) named least none =
    found_is (begins_after c client count) 0 (row_count c) (Some j) (omega arith, named.0, passes_after c client count j named, λ k from low. false_from_ne_true (begins_after c client count k) (λ is. least k low (after_passes c client count k (let there = named.0 in omega (arith, low, there)) is)))

-- a client has one row of a number, so the row that fits is the first one
pub only_row : (c : Config) (client count j : ℕ) → IsConfig c → IsAfter c client count j → Some j ≡ first_in (begins_after c client count) 0 (row_count c)
only_row c client count j good is = first_row c client count (Some j) is (λ k low other. absurd (let same = same_number_same_row c good k j other.0 is.0 (other.2 ∙ sym is.2) (other.3 ∙ sym is.3) in omega (arith, same, low))) (λ none k other. true≢false (ap is_some none))

-- the row that fits is the one that is noted
noted : (c : Config) (state : ClientRows) (client count j : ℕ) → IsConfig c → StandsForClientRows c state → IsAfter c client count j → noted_row state client count ≡ Some j
noted c state client count j good held is =
    let number = good.numbers j is.0 in
    let after = is.3 in
    let before : rows_before c (client_of c j) j ≡ count = omega (arith, number, after) in
    let near = row_near c state.rows.items state.starts.items held.begins held.stand j is.0 in
    subst (λ w. noted_row state w count ≡ Some j) is.2 (subst (λ n. noted_row state (client_of c j) n ≡ Some j) before near)

-- if the row that is noted doesn't fit, none does
pub no_row : (c : Config) (state : ClientRows) (client count : ℕ) (o : Option ℕ) → IsConfig c → StandsForClientRows c state → o ≡ noted_row state client count → NamesRow o (λ j. IsAfter c client count j → ⊥) → None ≡ first_in (begins_after c client count) 0 (row_count c)
no_row c state client count None good held is none = first_row c client count None tt tt (λ same j after. true≢false (ap is_some (sym (noted c state client count j good held after) ∙ sym is)))
no_row c state client count (Some j) good held is none = first_row c client count None tt tt (λ same k after. none (subst (λ x. IsAfter c client count x) (same_some k j (sym (noted c state client count k good held after) ∙ sym is)) after))

-- the row of a client's next batch begins it
pub next_row : (c : Config) (values : List ℕ) (client j : ℕ) → Some j ≡ batch_of c values client → IsNextRow c values j
next_row c values client j is =
    let count = command_count c client values in
    let first = subst (IsFirst (begins_after c client count) 0 (row_count c)) (sym is) (first_in_is (begins_after c client count) 0 (row_count c)) in
    let after = after_passes c client count j first.1 first.2 in
    record { row = after.0; begins = after.1; next = after.3 ∙ ap (λ w. command_count c w values + 1) (sym after.2) }

-- if there is none, no row of the client begins it
pub no_next_row : (c : Config) (values : List ℕ) (client : ℕ) → None ≡ batch_of c values client → (j : ℕ) → client_of c j ≡ client → IsNextRow c values j → ⊥
no_next_row c values client none j same row =
    let count = command_count c client values in
    let first = subst (IsFirst (begins_after c client count) 0 (row_count c)) (sym none) (first_in_is (begins_after c client count) 0 (row_count c)) in
    true≢false (sym (passes_after c client count j (row.row, row.begins, same, row.next ∙ ap (λ w. command_count c w values + 1) same)) ∙ first j (omega arith) row.row)

pub named_row : (c : Config) (values : List ℕ) (client : ℕ) (o : Option ℕ) → o ≡ batch_of c values client → NamesRow o (λ j. IsNextRow c values j)
named_row c values client None is = tt
named_row c values client (Some j) is = next_row c values client j is
