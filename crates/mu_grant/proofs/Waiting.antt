-- Which replicas wait, and which verb was due.
use Rattle.std.proofs.Common.{Bool, List, None, Some, false, not, true, suc, zero, ℕ, ◌+◌, ◌<◌, ◌≡◌, ◌≢◌, ap, arith, inl, inr, refl, subst, sym, ◌∙◌, true≢false}
use Rattle.std.specs.Prelude.{is_some}
use Rattle.std.specs.declared.option.Option.{Option}
use Rattle.std.proofs.lemmas.Bool.{cases_lt, and_parts}
use Rattle.mu_model.specs.declared.config.Config.{Config}
use Rattle.mu_model.specs.declared.event.Answer.{Answer}
use Rattle.mu_model.specs.declared.event.Event.{Event}
use Rattle.mu_model.specs.declared.event.Fence.{Fence}
use Rattle.mu_model.specs.declared.event.Verb.{Verb}
use Rattle.mu_model.specs.Allowed.{Needs}
use Rattle.mu_model.specs.Histories.{all_below}
use Rattle.mu_model.specs.Serving.{has_unserved_ask, is_least_waiting}
use Rattle.mu_grant.specs.Stands.{LookedFirst, answers_host}

-- w of n replicas is the least that waits
abbrev pub IsFirst : ℕ → ℕ → List Event → ℕ → Type 0
IsFirst n r mine w = (w < n) × (is_least_waiting r mine w ≡ true)

-- none of n replicas waits
abbrev pub nobody : ℕ → ℕ → List Event → Bool
nobody n r mine = all_below n (λ w. not (has_unserved_ask r mine w))

-- what all numbers below n pass, each of them passes
pub one_passes : (n w : ℕ) (test : ℕ → Bool) → all_below n test ≡ true → w < n → test w ≡ true
one_passes zero w test all low = absurd (omega arith)
one_passes (suc n) w test all low = elim (cases_lt w n) [
  | inl below ↦ one_passes n w test (and_parts (test n) (all_below n test) all).1 below
  | inr above ↦ let same : n ≡ w = omega arith in subst (λ k. test k ≡ true) same (and_parts (test n) (all_below n test) all).0
]

-- all numbers up to p pass if p does and all below
pub all_more : (p : ℕ) (test : ℕ → Bool) → test p ≡ true → all_below p test ≡ true → all_below (p + 1) test ≡ true
all_more p test one all =
    let next : suc p ≡ p + 1 = omega arith in
    subst (λ n. all_below n test ≡ true) next (rw (one, all) refl)

-- a test that fails if its opposite passes
pub opposite : (t : Bool) → t ≡ true → not t ≡ true → true ≡ false
opposite true is none = cc
opposite false is none = cc

-- if one waits, somebody does
pub somebody : (n r w : ℕ) (mine : List Event) → IsFirst n r mine w → nobody n r mine ≡ false
somebody n r w mine first = go (nobody n r mine) refl
  where
    go : (t : Bool) → nobody n r mine ≡ t → t ≡ false
    go false is = refl
    go true is = opposite (has_unserved_ask r mine w) (and_parts (has_unserved_ask r mine w) _ first.1).0 (one_passes n w (λ q. not (has_unserved_ask r mine q)) is first.0)

-- the first that waits is found exactly if somebody waits
pub found_iff : (n r : ℕ) (mine : List Event) (found : Option ℕ) → ((w : ℕ) → found ≡ Some w → IsFirst n r mine w) → (found ≡ None → nobody n r mine ≡ true) → (is_some found ≡ true → nobody n r mine ≡ false) × (nobody n r mine ≡ false → is_some found ≡ true)
found_iff n r mine None one none = (λ is. cc, λ is. absurd (true≢false (sym (none refl) ∙ is)))
found_iff n r mine (Some w) one none = (λ is. somebody n r w mine (one w refl), λ is. refl)

-- of two that are the least that waits none is lower
pub not_lower : (n r w q : ℕ) (mine : List Event) → IsFirst n r mine w → IsFirst n r mine q → q < w → true ≡ false
not_lower n r w q mine first other low = opposite (has_unserved_ask r mine q) (and_parts (has_unserved_ask r mine q) _ other.1).0 (one_passes w q (λ k. not (has_unserved_ask r mine k)) (and_parts (has_unserved_ask r mine w) _ first.1).1 low)

-- only one is the least that waits
pub only_first : (n r w q : ℕ) (mine : List Event) → IsFirst n r mine w → IsFirst n r mine q → q ≡ w
only_first n r w q mine first other = elim (cases_lt q w) [
  | inl low ↦ absurd (true≢false (not_lower n r w q mine first other low))
  | inr high ↦ elim (cases_lt w q) [
    | inl low ↦ absurd (true≢false (not_lower n r q w mine other first low))
    | inr same ↦ omega arith
  ]
]

-- the first that was found is the one that waits first
pub found_is : (n r w : ℕ) (mine : List Event) (found : Option ℕ) → ((q : ℕ) → found ≡ Some q → IsFirst n r mine q) → (found ≡ None → nobody n r mine ≡ true) → IsFirst n r mine w → found ≡ Some w
found_is n r w mine None one none first = absurd (true≢false (sym (none refl) ∙ somebody n r w mine first))
found_is n r w mine (Some q) one none first = ap Some (only_first n r w q mine first (one q refl))

-- if the look is due and an answer came that sees no fence, the look was made
pub look_was_due : (c : Config) (r : ℕ) (mine : List Event) (verb : Verb) (answer : Answer) → answers_host verb answer ≡ true → ((f : Fence) → answer ≢ Answer.Seen f) → LookedFirst r mine → Needs c r mine Verb.LookTarget → Needs c r mine verb → Verb.LookTarget ≡ verb
look_was_due c r mine Verb.Close (Answer.Seen f) told other order look needs = absurd (other f refl)
look_was_due c r mine Verb.LookTarget Answer.Done told other order look needs = refl
look_was_due c r mine Verb.Drain Answer.Done told other order look needs = absurd (true≢false (sym needs.1.0 ∙ look.1.0))
look_was_due c r mine (Verb.Grant w) Answer.Done told other order look needs = absurd (true≢false (sym (order (needs.1.1.0 look.0)) ∙ look.1.0))
look_was_due c r mine _ _ told other order look needs = cc

-- if the drain is due and an answer came that sees no fence, the drain was made
pub drain_was_due : (c : Config) (r : ℕ) (mine : List Event) (verb : Verb) (answer : Answer) → answers_host verb answer ≡ true → ((f : Fence) → answer ≢ Answer.Seen f) → Needs c r mine Verb.Drain → Needs c r mine verb → Verb.Drain ≡ verb
drain_was_due c r mine Verb.Close (Answer.Seen f) told other drain needs = absurd (other f refl)
drain_was_due c r mine Verb.LookTarget Answer.Done told other drain needs = absurd (true≢false (sym drain.1.0 ∙ needs.1.0))
drain_was_due c r mine Verb.Drain Answer.Done told other drain needs = refl
drain_was_due c r mine (Verb.Grant w) Answer.Done told other drain needs = absurd (true≢false (sym (needs.1.1.0 drain.0) ∙ drain.1.1.0))
drain_was_due c r mine _ _ told other drain needs = cc

-- if neither is due and an answer came that sees no fence, a grant was made
pub grant_was_due : (c : Config) (r : ℕ) (mine : List Event) (verb : Verb) (answer : Answer) → answers_host verb answer ≡ true → ((f : Fence) → answer ≢ Answer.Seen f) → (Needs c r mine Verb.LookTarget → true ≡ false) → (Needs c r mine Verb.Drain → true ≡ false) → Needs c r mine verb → (w : ℕ) × (verb ≡ Verb.Grant w) × Needs c r mine (Verb.Grant w)
grant_was_due c r mine Verb.Close (Answer.Seen f) told other look drain needs = absurd (other f refl)
grant_was_due c r mine Verb.LookTarget Answer.Done told other look drain needs = absurd (true≢false (look needs))
grant_was_due c r mine Verb.Drain Answer.Done told other look drain needs = absurd (true≢false (drain needs))
grant_was_due c r mine (Verb.Grant w) Answer.Done told other look drain needs = (w, refl, needs)
grant_was_due c r mine _ _ told other look drain needs = cc
