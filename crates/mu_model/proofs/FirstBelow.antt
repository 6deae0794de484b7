-- The least number below another that passes a test, if any does.
use Rattle.std.proofs.Common.{ℕ, ◌<◌, ◌≡◌, None, Some, Bool, true, false, refl, arith}
use Rattle.std.specs.Prelude.{if◌then◌else◌, nat_lt, not}
use Rattle.std.proofs.lemmas.Bool.{lt-ltb, ltb-true, not-true}
use Rattle.mu_model.specs.Histories.{all_below}
use Rattle.mu_model.specs.Points.{first_below}
use Rattle.mu_model.specs.Scores.{least_below}
use Rattle.mu_model.proofs.Least.{least_found, least_none}
use Rattle.mu_model.proofs.Scans.{all_at}

-- if a test fails below n, the search ends at n
none_least : (n : ℕ) (test : ℕ → Bool) → all_below n (λ j. not (test j)) ≡ true → least_below n test ≡ n
none_least n test all = least_none n test (λ j low. not-true (test j) (all_at n (λ j. not (test j)) all j low))

-- if no number below n passes, there is no first one
pub none_found : (n : ℕ) (test : ℕ → Bool) → all_below n (λ j. not (test j)) ≡ true → first_below n test ≡ None
none_found n test all = rw (none_least n test all) (go (nat_lt n n) refl)
  where
    go : (t : Bool) → nat_lt n n ≡ t → (if t then Some n else None) ≡ None
    go true is = absurd (omega (arith, ltb-true n n is))
    go false is = refl

-- a number that passes is the first one, if none below it passes
pub one_found : (n w : ℕ) (test : ℕ → Bool) → w < n → test w ≡ true → all_below w (λ j. not (test j)) ≡ true → first_below n test ≡ Some w
one_found n w test low passes none = rw (least_found test n w (none_least w test none) passes low) (rw (lt-ltb w n low) refl)
