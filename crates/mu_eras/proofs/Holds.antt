-- What holds the replicas of an engine, as it is taken from another and as rounds pass.
use Rattle.std.proofs.Common.{◌≡◌, ℕ, suc, zero, ◌<◌, ◌≤◌, List, [], ◌∷◌, Some, ap, arith, length, refl, sym}
use Rattle.std.specs.List.{slice_get}
use Rattle.mu_model.proofs.Basics.{same_some}
use Rattle.mu_engine.specs.declared.hold.Hold.{Hold}
use Rattle.mu_engine.specs.Live.{Live, changed_at, held}

-- an engine whose replicas are held so
abbrev pub with_holds : Live → List Hold → Live
with_holds live holds = record { job = live.job; room = live.room; events = live.events; holds = holds }

-- the first k of some holds, and the others of other ones
abbrev pub mixed : ℕ → List Hold → List Hold → List Hold
mixed zero xs ys = ys
mixed (suc k) [] ys = ys
mixed (suc k) (x ∷ xs) [] = []
mixed (suc k) (x ∷ xs) (y ∷ ys) = x ∷ mixed k xs ys

pub mixed_next : (k : ℕ) (xs ys : List Hold) (x : Hold) → slice_get xs k ≡ Some x → k < length ys → changed_at (held x) (mixed k xs ys) k ≡ mixed (suc k) xs ys
mixed_next zero [] ys x at low = cc
mixed_next zero (a ∷ xs) [] x at low = absurd (omega (arith, low))
mixed_next zero (a ∷ xs) (y ∷ ys) x at low = ap (λ z. z ∷ ys) (sym (same_some a x at))
mixed_next (suc k) [] ys x at low = cc
mixed_next (suc k) (a ∷ xs) [] x at low = absurd (omega (arith, low))
mixed_next (suc k) (a ∷ xs) (y ∷ ys) x at low = ap (λ l. a ∷ l) (mixed_next k xs ys x at (omega (arith, low)))

pub mixed_all : (k : ℕ) (xs ys : List Hold) → length xs ≤ k → length ys ≡ length xs → mixed k xs ys ≡ xs
mixed_all zero [] [] all same = refl
mixed_all zero [] (y ∷ ys) all same = absurd (omega (arith, same))
mixed_all zero (x ∷ xs) ys all same = absurd (omega (arith, all))
mixed_all (suc k) [] [] all same = refl
mixed_all (suc k) [] (y ∷ ys) all same = absurd (omega (arith, same))
mixed_all (suc k) (x ∷ xs) [] all same = absurd (omega (arith, same))
mixed_all (suc k) (x ∷ xs) (y ∷ ys) all same = ap (λ l. x ∷ l) (mixed_all k xs ys (omega (arith, all)) (omega (arith, same)))

pub length_mixed : (k : ℕ) (xs ys : List Hold) → length (mixed k xs ys) ≡ length ys
length_mixed zero xs ys = refl
length_mixed (suc k) [] ys = refl
length_mixed (suc k) (x ∷ xs) [] = refl
length_mixed (suc k) (x ∷ xs) (y ∷ ys) = ap suc (length_mixed k xs ys)

-- what is next is still that of the others
pub mixed_at : (k : ℕ) (xs ys : List Hold) → slice_get (mixed k xs ys) k ≡ slice_get ys k
mixed_at zero xs ys = refl
mixed_at (suc k) [] ys = refl
mixed_at (suc k) (x ∷ xs) [] = refl
mixed_at (suc k) (x ∷ xs) (y ∷ ys) = mixed_at k xs ys

pub length_changed : (f : Hold → Hold) (xs : List Hold) (k : ℕ) → length (changed_at f xs k) ≡ length xs
length_changed f [] k = refl
length_changed f (x ∷ xs) zero = refl
length_changed f (x ∷ xs) (suc k) = ap suc (length_changed f xs k)
