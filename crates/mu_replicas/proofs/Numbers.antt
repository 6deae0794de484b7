-- The number that is told in place of a wrong one.
use Rattle.std.proofs.Common.{List, ℕ, ◌+◌, ◌*◌, ◌/◌, ◌%◌, ◌<◌, ◌≤◌, ◌≡◌, None, Some, Bool, true, false, refl, sym, ap, ◌∙◌, subst, inl, inr, arith}
use Rattle.std.specs.Prelude.{if◌then◌else◌, max, nat_lt, ◌&&◌, ◌^◌}
use Rattle.std.specs.declared.option.Option.{Option}
use Rattle.std.proofs.lemmas.Bool.{and_from, and_parts, cases_lt, false≢true, lt-ltb, ltb-true}
use Rattle.mu_model.specs.declared.event.Event.{Event}
use Rattle.mu_model.specs.Entering.{any_min_read, number_allowed}
use Rattle.mu_model.specs.Histories.{greatest}
use Rattle.mu_model.specs.Leaderships.{leadership, number_put, proposal_number}
use Rattle.mu_model.proofs.Basics.{none_some, same_some}
use Rattle.mu_model.specs.Points.{greatest_used, least_number, of_32_bits, right_number}
use Rattle.mu_replicas.specs.Laws.{RightNumberAllowed}

-- b is the least of r above this
abbrev IsLeast : ℕ → ℕ → ℕ → Type 0
IsLeast r above b = (b % 8 ≡ r) × (8 ≤ b) × (above < b) × ((n : ℕ) → n % 8 ≡ r → 8 ≤ n → above < n → b ≤ n)

least_is : (r above : ℕ) → r < 8 → IsLeast r above (least_number r above)
least_is r above small = go (nat_lt 7 above && nat_lt above (above / 8 * 8 + r)) refl
  where
    go : (t : Bool) → (nat_lt 7 above && nat_lt above (above / 8 * 8 + r)) ≡ t → IsLeast r above (if t then above / 8 * 8 + r else above / 8 * 8 + r + 8)
    go true is =
        let both = and_parts (nat_lt 7 above) (nat_lt above (above / 8 * 8 + r)) is in
        let high = ltb-true 7 above both.0 in
        let same = ltb-true above (above / 8 * 8 + r) both.1 in
        (omega (arith, small), omega (arith, high, small), same, λ n own first over. omega (arith, high, same, small, own, first, over))
    go false is =
        let low : (7 < above) → (above < above / 8 * 8 + r) → ⊥ = λ high same. false≢true (sym is ∙ and_from _ _ (lt-ltb 7 above high) (lt-ltb above (above / 8 * 8 + r) same)) in
        elim (cases_lt 7 above) [
          | inl high ↦ elim (cases_lt above (above / 8 * 8 + r)) [
            | inl same ↦ absurd (low high same)
            | inr over ↦ (omega (arith, small), omega (arith, high), omega (arith, small, over), λ n own first past. omega (arith, small, over, own, first, past))
          ]
          | inr few ↦ (omega (arith, small), omega (arith, few), omega (arith, small, few), λ n own first past. omega (arith, small, few, own, first, past))
        ]

of_32 : (n b : ℕ) → of_32_bits n ≡ Some b → n ≡ b
of_32 n b is = go (nat_lt n (2 ^ 32)) is
  where
    go : (t : Bool) → (if t then Some n else None) ≡ Some b → n ≡ b
    go true same = same_some n b same
    go false same = absurd (none_some b same)

told_allowed : (r : ℕ) (past : List Event) (b : ℕ) (own : Option ℕ) → r < 8 → right_number r (greatest_used r past) own ≡ Some b → number_allowed r past b own
told_allowed r past b (Some own) small same = sym (same_some own b same)
told_allowed r past b None small same =
    let read = greatest (λ e. any_min_read r e.by e.verb e.answer) (leadership r past) in
    let put = greatest (λ e. number_put r e.by e.verb) past in
    let least = subst (λ n. IsLeast r (greatest_used r past) n) (of_32 _ b same) (least_is r (greatest_used r past) small) in
    let over : max read put < b = least.2 in
    (least.0, least.1, omega (arith, over), omega (arith, over), λ n own first above also. least.3 n own first (omega (arith, above, also)))

fits_32 : (n b : ℕ) → n ≡ b → b < 2 ^ 32 → of_32_bits n ≡ Some b
fits_32 n b same small = ap of_32_bits same ∙ ap (λ t. if t then Some b else None) (lt-ltb b (2 ^ 32) small)

-- two least numbers are the same
allowed_told : (r : ℕ) (past : List Event) (b : ℕ) (own : Option ℕ) → r < 8 → b < 2 ^ 32 → number_allowed r past b own → right_number r (greatest_used r past) own ≡ Some b
allowed_told r past b (Some own) small fits same = ap (λ n. Some n) (sym same)
allowed_told r past b None small fits allowed =
    let read = greatest (λ e. any_min_read r e.by e.verb e.answer) (leadership r past) in
    let put = greatest (λ e. number_put r e.by e.verb) past in
    let above = greatest_used r past in
    let n = least_number r above in
    let least = least_is r above small in
    let over : max read put < n = least.2 in
    let one : b ≤ n = allowed.4 n least.0 least.1 (omega (arith, over)) (omega (arith, over)) in
    let read_below = allowed.2 in
    let put_below = allowed.3 in
    let high : max read put < b = omega (arith, read_below, put_below) in
    let other : n ≤ b = least.3 b allowed.0 allowed.1 high in
    fits_32 n b (omega (arith, one, other)) fits

pub right_allowed : RightNumberAllowed
right_allowed r past b small = (told_allowed r past b (proposal_number r past) small, allowed_told r past b (proposal_number r past) small)
