-- The least number that passes a test.
use Rattle.std.proofs.Common.{Bool, arith, false, true, suc, zero, ℕ, ◌+◌, ◌<◌, ◌≡◌, inl, inr, refl, sym, subst}
use Rattle.std.proofs.lemmas.Bool.{cases_lt, ne_eqb}
use Rattle.mu_model.specs.Scores.{least_below}
use Rattle.mu_model.proofs.Basics.{same_number}

-- if no number below q passes, nor q itself, none below the next one does
pub least_next : (test : ℕ → Bool) (q : ℕ) → least_below q test ≡ q → test q ≡ false → least_below (q + 1) test ≡ q + 1
least_next test q none fails =
    let more : suc q ≡ q + 1 = omega arith in
    subst (λ m. least_below m test ≡ m) more (rw none (rw (same_number q) (rw fails (sym more))))

-- the first one that passes is the least below each number above it
pub least_found : (test : ℕ → Bool) (n q : ℕ) → least_below q test ≡ q → test q ≡ true → q < n → least_below n test ≡ q
least_found test zero q none passes low = absurd (omega arith)
least_found test (suc n) q none passes low = elim (cases_lt q n) [
  | inl below ↦ rw (least_found test n q none passes below) (rw (ne_eqb q n (λ same. absurd (omega arith))) refl)
  | inr above ↦ here (omega arith)
]
  where
    here : q ≡ n → least_below (suc n) test ≡ q
    here e = subst (λ m. least_below (suc m) test ≡ q) e (rw none (rw (same_number q) (rw passes refl)))

-- if each number below n fails, none passes
pub least_none : (n : ℕ) (test : ℕ → Bool) → ((q : ℕ) → q < n → test q ≡ false) → least_below n test ≡ n
least_none zero test fails = refl
least_none (suc n) test fails =
    let one : n + 1 ≡ suc n = omega arith in
    subst (λ m. least_below m test ≡ m) one (least_next test n (least_none n test (λ q low. fails q (omega (arith, low)))) (fails n (omega arith)))
