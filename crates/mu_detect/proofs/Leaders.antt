-- Whom the scores name leader.
use Rattle.std.proofs.Common.{Bool, List, arith, false, true, ℕ, ◌<◌, ◌==◌, ◌≡◌, ◌||◌, not, refl}
use Rattle.mu_model.specs.declared.event.Event.{Event}
use Rattle.mu_model.specs.Scores.{is_failed, score}
use Rattle.mu_model.proofs.Basics.{same_number}
use Rattle.std.proofs.lemmas.Bool.{ne_eqb}

-- q is r, or r holds it to be alive
abbrev pub may_lead : ℕ → List Event → ℕ → Bool
may_lead r mine q = (q == r) || not (is_failed r q mine)

-- a replica that is alive may lead
pub alive_leads : (r q : ℕ) (mine : List Event) → (score r q mine).1 ≡ true → may_lead r mine q ≡ true
alive_leads r q mine alive = by_test (q == r) refl
  where
    by_test : (t : Bool) → (q == r) ≡ t → may_lead r mine q ≡ true
    by_test true is = rw is refl
    by_test false is = rw is (rw alive refl)

-- another that is failed may not
pub failed_follows : (r q : ℕ) (mine : List Event) → q < r → (score r q mine).1 ≡ false → may_lead r mine q ≡ false
failed_follows r q mine low failed = rw (ne_eqb q r (λ same. absurd (omega arith))) (rw failed refl)

-- the own id may lead
pub own_leads : (r : ℕ) (mine : List Event) → may_lead r mine r ≡ true
own_leads r mine = rw (same_number r) refl
