-- Beyond the last region nothing is known.
use Rattle.std.proofs.Common.{◌≡◌, ℕ, zero, suc, ◌<◌, ◌≤◌, inl, Bool, true, false, ◌==◌, ◌||◌, List, [], ◌∷◌, length, refl, sym, ◌∙◌, ap, arith, None, ◌+◌, true≢false, rules}
use Rattle.std.proofs.Math.Bool.{and-false}
use Rattle.std.specs.Prelude.{IsTrue, nat_le, ◌↔◌}
use Rattle.std.specs.List.{slice_get}
use Rattle.std.proofs.lemmas.Bool.{le-ltb, leb-true, ne_eqb}
use Rattle.mu_model.specs.declared.config.Config.{Config}
use Rattle.mu_model.specs.declared.event.Answer.{Answer}
use Rattle.mu_model.specs.declared.event.Event.{Event}
use Rattle.mu_model.specs.declared.event.Verb.{Verb}
use Rattle.mu_model.specs.Allowed.{Needs}
use Rattle.mu_model.specs.Histories.{all_below, has, max_with}
use Rattle.mu_model.specs.Knowledge.{fills, fuo_read, greatest_fuo_read, is_filled, known, lands_entry}
use Rattle.mu_model.specs.Leaderships.{begins_leadership, leadership}
use Rattle.mu_model.specs.Parts.{IsPossible}
use Rattle.mu_model.specs.Placing.{is_caught_up_at}
use Rattle.mu_agree.proofs.Landings.{greatest_since, has_since}
use Rattle.mu_agree.proofs.Possible.{parts_shorten_law}
use Rattle.mu_knowledge.specs.FilledLog.{filled_spot, is_at, is_below}
use Rattle.mu_placing.specs.FilledLogs.{has_known}
use Rattle.mu_placing.proofs.Alike.{in_range, none_beyond}
use Rattle.mu_placing.proofs.Caught.{is_last_known, last_tells_known}
use Rattle.mu_knowledge.proofs.Filled.{fills_by, filled_upto}

-- no FUO is read there
no_fuo : (c : Config) (r p by : ℕ) (verb : Verb) (answer : Answer) (mine : List Event) → c.replicas ≤ p → Needs c r mine verb → fuo_read r p by verb answer ≡ None
no_fuo c r p by (Verb.Fuo q) (Answer.Number x) mine beyond needs = rw (ne_eqb q p (let low = needs.0 in λ e. omega (arith, e, beyond, low)), and-false (by == r)) refl
no_fuo c r p by verb answer mine beyond needs = refl

-- nothing was put there
no_put : (c : Config) (r p j b v : ℕ) (mine : List Event) → IsPossible c r mine → c.replicas ≤ p → has (lands_entry r p j b v) (leadership r mine) ≡ false
no_put c r p j b v mine possible beyond = go (has (lands_entry r p j b v) (leadership r mine)) refl
  where
    go : (t : Bool) → has (lands_entry r p j b v) (leadership r mine) ≡ t → t ≡ false
    go true is = let low = (in_range c r mine possible p j b v (has_since (lands_entry r p j b v) (begins_leadership r) mine is)).0 in absurd (omega arith)
    go false is = refl

-- no put or look shows a position there
no_spot : (c : Config) (r p by : ℕ) (verb : Verb) (answer : Answer) (mine now : List Event) → c.replicas ≤ p → r < c.replicas → Needs c r mine verb → ((j b v : ℕ) → has (lands_entry r p j b v) (leadership r now) ≡ false)
    → filled_spot c r p mine by verb answer now ≡ None
no_spot c r p by (Verb.PutSlot q i b v) Answer.Done mine now beyond small needs nothing =
    rw (ne_eqb q p (let low = needs.0 in λ e. omega (arith, e, beyond, low)), nothing i b v, and-false (length (known c r now) == i + 1), and-false (length (known c r mine) == i), and-false (by == r)) refl
no_spot c r p by (Verb.Look q i) (Answer.Entry b v) mine now beyond small needs nothing = rw (ne_eqb p r (λ e. omega (arith, e, beyond, small)), and-false (by == r)) refl
no_spot c r p by verb answer mine now beyond small needs nothing = refl

none_filled_beyond : (c : Config) (r p j : ℕ) (mine : List Event) → IsPossible c r mine → c.replicas ≤ p → is_filled c r p mine j ≡ false
none_filled_beyond c r p j [] possible beyond = refl
none_filled_beyond c r p j (e ∷ mine) possible beyond =
    let s = parts_shorten_law c r mine e possible in
    let fuo = no_fuo c r p e.by e.verb e.answer mine beyond s.allowed.may in
    let spot = no_spot c r p e.by e.verb e.answer mine (e ∷ mine) beyond s.allowed.replica s.allowed.may (λ i b v. no_put c r p i b v (e ∷ mine) possible beyond) in
    ap (λ x. fills c r p j mine e.by e.verb e.answer (e ∷ mine) || x) (none_filled_beyond c r p j mine s.before beyond)
    ∙ ap (λ x. x || false) (fills_by c r p j e.by e.verb e.answer mine ∙ ap (λ o. is_below o j || is_at (filled_spot c r p mine e.by e.verb e.answer (e ∷ mine)) j) fuo ∙ ap (λ o. is_at o j) spot)

none_read_beyond : (c : Config) (r p : ℕ) (mine : List Event) → IsPossible c r mine → c.replicas ≤ p → greatest_fuo_read r p mine ≡ 0
none_read_beyond c r p [] possible beyond = refl
none_read_beyond c r p (e ∷ mine) possible beyond =
    let s = parts_shorten_law c r mine e possible in
    ap (λ o. max_with o (greatest_fuo_read r p mine)) (no_fuo c r p e.by e.verb e.answer mine beyond s.allowed.may) ∙ none_read_beyond c r p mine s.before beyond

-- whether all positions there below n are filled
pub filled_beyond : (c : Config) (r p n : ℕ) (mine : List Event) → IsPossible c r mine → c.replicas ≤ p → nat_le n 0 ≡ all_below n (is_filled c r p mine)
filled_beyond c r p n mine possible beyond = filled_upto (is_filled c r p mine) 0 n (λ j low. absurd (omega arith)) (none_filled_beyond c r p 0 mine possible beyond)

-- nothing is caught up there
pub none_caught_beyond : (c : Config) (r p j : ℕ) (mine : List Event) → IsPossible c r mine → c.replicas ≤ p → is_caught_up_at c r p mine j ≡ false
none_caught_beyond c r p j mine possible beyond =
    let few = greatest_since (λ e. fuo_read r p e.by e.verb e.answer) (begins_leadership r) mine in
    let none = none_read_beyond c r p mine possible beyond in
    ap (λ x. x || has_known c r p mine j) (le-ltb j (greatest_fuo_read r p (leadership r mine)) (omega (arith, few, none)))
    ∙ sym (last_tells_known c r p j mine possible)
    ∙ ap (λ o. is_last_known (slice_get (known c r mine) j) o) (none_beyond c r p j mine possible (inl beyond))

-- no number but 0 is at most 0
pub zero_alone : (n : ℕ) → (n == 0) ≡ nat_le n 0
zero_alone zero = refl
zero_alone (suc n) = sym (go (nat_le (suc n) 0) refl)
  where
    go : (t : Bool) → nat_le (suc n) 0 ≡ t → t ≡ (suc n == 0)
    go true is = let low = leb-true (suc n) 0 is in absurd (omega arith)
    go false is = sym (ne_eqb (suc n) 0 (λ e. omega (arith, e)))

-- whether all positions there below n have what is known
pub caught_beyond : (c : Config) (r p n : ℕ) (mine : List Event) → IsPossible c r mine → c.replicas ≤ p → IsTrue (n == 0) ↔ ((j : ℕ) → j < n → is_caught_up_at c r p mine j ≡ true)
caught_beyond c r p zero mine possible beyond = (λ is j low. absurd (omega arith), λ all. search rules)
caught_beyond c r p (suc n) mine possible beyond = (λ is. absurd (true≢false (sym is ∙ ne_eqb (suc n) 0 (λ e. omega (arith, e)))), λ all. absurd (true≢false (sym (all 0 (omega arith)) ∙ none_caught_beyond c r p 0 mine possible beyond)))
