-- The first number that passes, as a definition has it and as it is found.
use Rattle.std.proofs.Common.{◌≡◌, ℕ, ◌+◌, ◌-◌, inl, inr, Bool, true, false, None, Some, ap, refl, sym, ◌∙◌, subst, suc, zero, arith, true≢false}
use Rattle.std.specs.Prelude.{if◌then◌else◌}
use Rattle.std.specs.declared.option.Option.{Option}
use Rattle.std.proofs.lemmas.Bool.{cases_eq, cases_lt}
use Rattle.mu_knowledge.specs.Offers.{IsFirst, first_in, first_of}

-- if the number before does not pass
earlier : (test : ℕ → Bool) (from n : ℕ) (o : Option ℕ) → test from ≡ false → IsFirst test (from + 1) n o → IsFirst test from n o
earlier test from n None fails none = λ k low high. elim (cases_eq k from) [
  | inl same ↦ ap test same ∙ fails
  | inr other ↦ none k (omega (arith, low, other)) high
]
earlier test from n (Some q) fails first = (
  (let low = first.0 in omega (arith, low)),
  first.1,
  first.2,
  λ k low high. elim (cases_eq k from) [
    | inl same ↦ ap test same ∙ fails
    | inr other ↦ first.3 k (omega (arith, low, other)) high
  ],
)

first_of_is : (test : ℕ → Bool) (from count n : ℕ) → n ≡ from + count → IsFirst test from n (first_of test from count)
first_of_is test from zero n is = λ k low high. absurd (omega (arith, is, low, high))
first_of_is test from (suc count) n is = go (test from) refl (first_of_is test (from + 1) count n (omega (arith, is)))
  where
    go : (t : Bool) → test from ≡ t → IsFirst test (from + 1) n (first_of test (from + 1) count) → IsFirst test from n (if t then Some from else first_of test (from + 1) count)
    go true passes rest = ((omega arith), (omega (arith, is)), passes, λ k low high. absurd (omega (arith, low, high)))
    go false fails rest = earlier test from n (first_of test (from + 1) count) fails rest

pub first_in_is : (test : ℕ → Bool) (from n : ℕ) → IsFirst test from n (first_in test from n)
first_in_is test from n = elim (cases_lt n from) [
  | inl beyond ↦ subst (λ k. IsFirst test from n (first_of test from k)) (let none : 0 ≡ n - from = omega (arith, beyond) in none) (λ k low high. absurd (omega (arith, low, high, beyond)))
  | inr within ↦ first_of_is test from (n - from) n (omega (arith, within))
]

same_first : (test : ℕ → Bool) (from n : ℕ) (o u : Option ℕ) → IsFirst test from n o → IsFirst test from n u → o ≡ u
same_first test from n None None none first = refl
same_first test from n None (Some q) none first = absurd (true≢false (sym first.2 ∙ none q first.0 first.1))
same_first test from n (Some p) None first none = absurd (true≢false (sym first.2 ∙ none p first.0 first.1))
same_first test from n (Some p) (Some q) one other = elim (cases_lt p q) [
  | inl less ↦ absurd (true≢false (sym one.2 ∙ other.3 p one.0 less))
  | inr more ↦ elim (cases_eq p q) [
    | inl same ↦ ap Some same
    | inr differs ↦ absurd (true≢false (sym other.2 ∙ one.3 q other.0 (omega (arith, more, differs))))
  ]
]

-- what was found is what the listing has
pub found_is : (test : ℕ → Bool) (from n : ℕ) (o : Option ℕ) → IsFirst test from n o → o ≡ first_in test from n
found_is test from n o first = same_first test from n o (first_in test from n) first (first_in_is test from n)
