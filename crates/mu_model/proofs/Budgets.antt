-- How long a list may be whose replicas keep to their budgets.
use Rattle.std.proofs.Common.{◌≡◌, ℕ, zero, suc, ◌+◌, ◌*◌, ◌<◌, ◌≤◌, ◌==◌, Bool, true, false, List, [], ◌∷◌, length, refl, ap, arith, eqb-true}
use Rattle.std.proofs.lemmas.Bool.{eqb-false}
use Rattle.std.proofs.lemmas.List.{length-reverse}
use Rattle.mu_model.specs.declared.config.Config.{Config}
use Rattle.mu_model.specs.declared.event.Event.{Event}
use Rattle.mu_model.specs.Histories.{history, part}
use Rattle.mu_model.specs.Legal.{IsLegalHistory}

-- each event is of a replica below n, whose part was shorter than b
abbrev pub KeepsBudgets : ℕ → ℕ → List Event → Type 0
KeepsBudgets n b [] = Unit {0}
KeepsBudgets n b (e ∷ past) = KeepsBudgets n b past × ((e.by < n) × (length (part e.by past) < b))

pub legal_keeps : (c : Config) (past : List Event) → IsLegalHistory c past → KeepsBudgets c.replicas c.budget past
legal_keeps c [] h = tt
legal_keeps c (e ∷ past) h = (legal_keeps c past h.0, (h.1.allowed.replica, h.1.allowed.budget))

-- the lengths of the parts of the replicas below n
abbrev sizes : ℕ → List Event → ℕ
sizes zero past = 0
sizes (suc n) past = length (part n past) + sizes n past

none : (n : ℕ) → sizes n [] ≡ 0
none zero = refl
none (suc n) = omega (arith, none n)

-- an event of another replica adds nothing
other : (n : ℕ) (e : Event) (past : List Event) → n ≤ e.by → sizes n (e ∷ past) ≡ sizes n past
other zero e past above = refl
other (suc n) e past above = by_test (e.by == n) refl (other n e past (omega (arith, above)))
  where
    by_test : (t : Bool) → (e.by == n) ≡ t → sizes n (e ∷ past) ≡ sizes n past → sizes (suc n) (e ∷ past) ≡ sizes (suc n) past
    by_test true is before = let same = eqb-true e.by n is in absurd (omega (arith, same, above))
    by_test false is before = rw is (omega (arith, before))

-- an event of a replica below n adds one
one_more : (n : ℕ) (e : Event) (past : List Event) → e.by < n → sizes n (e ∷ past) ≡ sizes n past + 1
one_more zero e past low = absurd (omega (arith, low))
one_more (suc n) e past low = by_test (e.by == n) refl (λ below. one_more n e past below)
  where
    by_test : (t : Bool) → (e.by == n) ≡ t → (e.by < n → sizes n (e ∷ past) ≡ sizes n past + 1) → sizes (suc n) (e ∷ past) ≡ sizes (suc n) past + 1
    by_test true is below = let same = eqb-true e.by n is in let rest = other n e past (omega (arith, same)) in rw is (omega (arith, rest))
    by_test false is below = let differ = eqb-false e.by n is in let rest = below (omega (arith, low, differ)) in rw is (omega (arith, rest))

-- all events are of replicas below n
whole : (n b : ℕ) (past : List Event) → KeepsBudgets n b past → length past ≡ sizes n past
whole n b [] h = omega (arith, none n)
whole n b (e ∷ past) h = omega (arith, whole n b past h.0, one_more n e past h.1.0)

-- no part is longer than the budget
pub within : (n b r : ℕ) (past : List Event) → KeepsBudgets n b past → length (part r past) ≤ b
within n b r [] h = omega arith
within n b r (e ∷ past) h = by_test (e.by == r) refl (within n b r past h.0)
  where
    by_test : (t : Bool) → (e.by == r) ≡ t → length (part r past) ≤ b → length (part r (e ∷ past)) ≤ b
    by_test true is before =
        let same : length (part e.by past) ≡ length (part r past) = ap (λ q. length (part q past)) (eqb-true e.by r is) in
        let room = h.1.1 in
        rw is (omega (arith, same, room))
    by_test false is before = rw is before

-- no part of a legal history is longer than the budget
pub part_within_budget : (c : Config) (r : ℕ) (past : List Event) → IsLegalHistory c past → length (part r past) ≤ c.budget
part_within_budget c r past legal = within c.replicas c.budget r past (legal_keeps c past legal)

at_most : (n b : ℕ) (past : List Event) → ((r : ℕ) → length (part r past) ≤ b) → sizes n past ≤ n * b
at_most zero b past each = omega arith
at_most (suc n) b past each = omega (arith, at_most n b past each, each n)

-- a part below n that is shorter than the budget
shorter : (n b r : ℕ) (past : List Event) → ((q : ℕ) → length (part q past) ≤ b) → length (part r past) < b → r < n → sizes n past < n * b
shorter zero b r past each left low = absurd (omega (arith, low))
shorter (suc n) b r past each left low = by_test (r == n) refl (λ below. shorter n b r past each left below)
  where
    by_test : (t : Bool) → (r == n) ≡ t → (r < n → sizes n past < n * b) → sizes (suc n) past < suc n * b
    by_test true is below =
        let same : length (part r past) ≡ length (part n past) = ap (λ q. length (part q past)) (eqb-true r n is) in
        omega (arith, same, left, at_most n b past each)
    by_test false is below = let differ = eqb-false r n is in let rest = below (omega (arith, low, differ)) in omega (arith, rest, each n)

-- if one of n replicas has a step left, the list is shorter than n budgets
pub room_for : (n b : ℕ) (events : List Event) (r : ℕ) → KeepsBudgets n b (history events) → r < n → length (part r (history events)) < b → length events < n * b
room_for n b events r keeps low left =
    let past = history events in
    let same : length past ≡ length events = length-reverse events in
    let sum = whole n b past keeps in
    let less = shorter n b r past (λ q. within n b q past keeps) left low in
    omega (arith, same, sum, less)

-- seven full budgets are at most this many steps, fewer than 2 ^ 20
pub few_steps : (n b : ℕ) → n ≤ 7 → b ≤ 131071 → n * b ≤ 917497
few_steps n b few small = omega (arith, by_count n few)
  where
    by_count : (m : ℕ) → m ≤ 7 → m * b ≤ m * 131071
    by_count zero low = omega arith
    by_count (suc m) low = omega (arith, by_count m (omega (arith, low)), small)

-- a legal history is no longer than that
pub short_history : (c : Config) (past : List Event) → IsLegalHistory c past → c.replicas ≤ 7 → c.budget ≤ 131071 → length past ≤ 917497
short_history c past legal few small =
    let keeps = legal_keeps c past legal in
    let all = whole c.replicas c.budget past keeps in
    let most = at_most c.replicas c.budget past (λ q. within c.replicas c.budget q past keeps) in
    let less = few_steps c.replicas c.budget few small in
    omega (arith, all, most, less)
