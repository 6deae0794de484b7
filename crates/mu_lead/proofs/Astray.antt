-- Regions that have gone astray: the first one, and what was seen of it.
use Rattle.std.proofs.Common.{Bool, List, None, Some, ap, arith, false, inl, inr, refl, subst, suc, sym, true, true≢false, zero, ℕ, ◌&&◌, ◌+◌, ◌<◌, ◌∙◌, ◌∷◌, ◌≡◌, ◌≤◌}
use Rattle.std.specs.Prelude.{[], if◌then◌else◌, is_some, nat_le, nat_lt, not}
use Rattle.std.specs.declared.option.Option.{Option}
use Rattle.std.proofs.lemmas.Bool.{and_parts, cases_eq, false_from_ne_true, leb-true, lt-ltb, ltb-true}
use Rattle.mu_model.specs.declared.config.Config.{Config}
use Rattle.mu_model.specs.declared.event.Event.{Event}
use Rattle.mu_model.specs.declared.event.Fence.{Fence}
use Rattle.mu_model.specs.Again.{asks_again, foreign_row, is_astray, is_numbered, row_with}
use Rattle.mu_model.specs.Histories.{count_below, newer_or, newest}
use Rattle.mu_model.specs.Leaderships.{begins_leadership, fence_seen, is_member, proposal_number}
use Rattle.mu_model.specs.Scores.{is_failed}
use Rattle.mu_agree.proofs.Counting.{some_below}
use Rattle.mu_knowledge.specs.Offers.{IsFirst}

-- if there is no first number below n that passes, none is counted
none_counts : (n : ℕ) (test : ℕ → Bool) → IsFirst test 0 n None → nat_lt 0 (count_below n test) ≡ false
none_counts n test none = false_from_ne_true (nat_lt 0 (count_below n test)) (λ is.
    let m = some_below n test (ltb-true 0 (count_below n test) is) in
    true≢false (sym m.passes ∙ none m.who (omega arith) m.below))

-- a number below n that passes is counted
one_counts : (n q : ℕ) (test : ℕ → Bool) → q < n → test q ≡ true → 0 < count_below n test
one_counts zero q test low passes = absurd (omega (arith, low))
one_counts (suc n) q test low passes = elim (cases_eq q n) [
  | inl same ↦ here (test n) (subst (λ k. test k ≡ true) same passes)
  | inr other ↦ there (test n) (one_counts n q test (omega (arith, low, other)) passes)
]
  where
    here : (t : Bool) → t ≡ true → 0 < (if t then count_below n test + 1 else count_below n test)
    here true is = omega arith
    here false is = absurd (true≢false (sym is))

    there : (t : Bool) → 0 < count_below n test → 0 < (if t then count_below n test + 1 else count_below n test)
    there true some = omega arith
    there false some = some

-- there is a first one exactly if some are counted
pub first_counts : (n : ℕ) (test : ℕ → Bool) (first : Option ℕ) → IsFirst test 0 n first → is_some first ≡ nat_lt 0 (count_below n test)
first_counts n test None none = sym (none_counts n test none)
first_counts n test (Some q) first = sym (lt-ltb 0 (count_below n test) (one_counts n q test first.1 first.2))

-- a leader asks again only if some region has gone astray
pub some_astray : (c : Config) (r : ℕ) (mine : List Event) → asks_again c r mine ≡ true → nat_lt 0 (count_below c.replicas (λ p. is_astray r mine p)) ≡ true
some_astray c r mine asks = (and_parts (is_numbered r mine) (nat_lt 0 (count_below c.replicas (λ p. is_astray r mine p))) asks).1

-- so there is a first such region
pub never_none : (c : Config) (r : ℕ) (mine : List Event) → asks_again c r mine ≡ true → IsFirst (λ p. is_astray r mine p) 0 c.replicas None → ⊥
never_none c r mine asks none = true≢false (sym (some_astray c r mine asks) ∙ none_counts c.replicas (λ p. is_astray r mine p) none)

-- a region that has gone astray was seen open to another 16 times in a row
pub long_row : (r p : ℕ) (mine : List Event) → is_astray r mine p ≡ true → 16 ≤ foreign_row r p mine
long_row r p mine astray =
    let rest = (and_parts (not (is_member r p mine)) (not (is_failed r p mine) && nat_le 16 (foreign_row r p mine)) astray).1 in
    leb-true 16 (foreign_row r p mine) (and_parts (not (is_failed r p mine)) (nat_le 16 (foreign_row r p mine)) rest).1

-- r saw a fence of p
abbrev Saw : ℕ → ℕ → List Event → Type 0
Saw r p mine = (f : Fence) × (newest (λ e. fence_seen r p e.by e.verb e.answer) mine ≡ Some f)

-- it saw one if it counts any in its row
seen_of_row : (r p : ℕ) (mine : List Event) → 0 < foreign_row r p mine → Saw r p mine
seen_of_row r p [] row = absurd (omega (arith, row))
seen_of_row r p (e ∷ past) row = go (begins_leadership r e) row (seen_of_row r p past)
  where
    told : (o : Option Fence) → 0 < row_with r (is_some (proposal_number r past)) o (foreign_row r p past) → (0 < foreign_row r p past → Saw r p past) → (f : Fence) × (newer_or o (newest (λ e. fence_seen r p e.by e.verb e.answer) past) ≡ Some f)
    told None row before = before row
    told (Some f) row before = (f, refl)

    go : (t : Bool) → 0 < (if t then 0 else row_with r (is_some (proposal_number r past)) (fence_seen r p e.by e.verb e.answer) (foreign_row r p past)) → (0 < foreign_row r p past → Saw r p past)
        → (f : Fence) × (newer_or (fence_seen r p e.by e.verb e.answer) (newest (λ e. fence_seen r p e.by e.verb e.answer) past) ≡ Some f)
    go true row before = absurd (omega (arith, row))
    go false row before = told (fence_seen r p e.by e.verb e.answer) row before

-- so it saw one of a region that has gone astray
pub never_unseen : (r p : ℕ) (mine : List Event) → is_astray r mine p ≡ true → newest (λ e. fence_seen r p e.by e.verb e.answer) mine ≡ None → ⊥
never_unseen r p mine astray none =
    let long = long_row r p mine astray in
    let seen = seen_of_row r p mine (omega (arith, long)) in
    true≢false (sym (ap is_some seen.1) ∙ ap is_some none)
