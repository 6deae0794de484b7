-- The longest of some logs.
use Rattle.std.proofs.Common.{◌≡◌, ℕ, ◌≤◌, Bool, true, false, cond, List, [], ◌∷◌, Some, arith, length, refl, subst, suc, zero, inl, inr, ◌⊎◌}
use Rattle.std.specs.Prelude.{nat_lt}
use Rattle.std.specs.List.{slice_get}
use Rattle.std.proofs.lemmas.Bool.{ltb-false, ltb-true}
use Rattle.std.proofs.lemmas.Bool.Decides.{nat_tests}
use Rattle.mu_outcome.specs.Entries.{longest}

-- the longer of two logs, the first at a tie
abbrev pub longer : List ℕ → List ℕ → List ℕ
longer xs ys = cond (nat_lt (length xs) (length ys)) ys xs

pub longer_assoc : (xs ys zs : List ℕ) → longer xs (longer ys zs) ≡ longer (longer xs ys) zs
longer_assoc xs ys zs = grind (arith, nat_tests)

-- the longest log is one of them, or there is nothing in any
pub longest_is : (logs : List (List ℕ)) → (longest logs ≡ []) ⊎ ((r : ℕ) × (slice_get logs r ≡ Some (longest logs)))
longest_is [] = inl refl
longest_is (log ∷ logs) = go (nat_lt (length log) (length (longest logs))) (longest_is logs)
  where
    go : (t : Bool) → (longest logs ≡ []) ⊎ ((r : ℕ) × (slice_get logs r ≡ Some (longest logs))) → (cond t (longest logs) log ≡ []) ⊎ ((r : ℕ) × (slice_get (log ∷ logs) r ≡ Some (cond t (longest logs) log)))
    go true (inl none) = inl none
    go true (inr some) = inr (suc some.0, some.1)
    go false rest = inr (0, refl)

-- and none is longer
pub longest_most : (logs : List (List ℕ)) (r : ℕ) (log : List ℕ) → slice_get logs r ≡ Some log → length log ≤ length (longest logs)
longest_most [] r log at = cc
longest_most (first ∷ logs) zero log at = let same : first ≡ log = cc in subst (λ l. length l ≤ length (longest (first ∷ logs))) same (go (nat_lt (length first) (length (longest logs))) refl)
  where
    go : (t : Bool) → nat_lt (length first) (length (longest logs)) ≡ t → length first ≤ length (cond t (longest logs) first)
    go true less = let low = ltb-true (length first) (length (longest logs)) less in omega (arith, low)
    go false least = omega arith
longest_most (first ∷ logs) (suc r) log at = go (nat_lt (length first) (length (longest logs))) refl (longest_most logs r log at)
  where
    go : (t : Bool) → nat_lt (length first) (length (longest logs)) ≡ t → length log ≤ length (longest logs) → length log ≤ length (cond t (longest logs) first)
    go true less rest = rest
    go false least rest = let low = ltb-false (length first) (length (longest logs)) least in omega (arith, low, rest)
