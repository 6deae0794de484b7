-- Two majorities share a member.
use Rattle.std.proofs.Common.{◌≡◌, ℕ, zero, suc, ◌+◌, ◌<◌, ◌≤◌, Bool, true, false, cond, ◌&&◌, refl, sym, arith, true≢false}
use Rattle.mu_model.specs.Histories.{count_below}
use Rattle.mu_model.specs.Leaderships.{majority_of}

step_both : (x y : Bool) (a b n m : ℕ) → a + b ≤ n + m → cond x (a + 1) a + cond y (b + 1) b ≤ suc n + cond (x && y) (m + 1) m
step_both true true a b n m h = omega arith
step_both true false a b n m h = omega arith
step_both false true a b n m h = omega arith
step_both false false a b n m h = omega arith

pub count_both : (n : ℕ) (f g : ℕ → Bool) → count_below n f + count_below n g ≤ n + count_below n (λ p. f p && g p)
count_both zero f g = omega arith
count_both (suc n) f g = step_both (f n) (g n) (count_below n f) (count_below n g) n (count_below n (λ p. f p && g p)) (count_both n f g)

pub record Member (n : ℕ) (f : ℕ → Bool) : Type 0 where
  pub who : ℕ
  pub below : who < n
  pub passes : f who ≡ true

at_last : (n : ℕ) (f : ℕ → Bool) → (0 < count_below n f → Member n f) → (t : Bool) → f n ≡ t → 0 < cond t (count_below n f + 1) (count_below n f) → Member (suc n) f
at_last n f ih true e h = record { who = n; below = omega arith; passes = e }
at_last n f ih false e h = let m = ih h in record { who = m.who; below = (let k = m.below in omega arith); passes = m.passes }

pub some_below : (n : ℕ) (f : ℕ → Bool) → 0 < count_below n f → Member n f
some_below zero f h = absurd (omega arith)
some_below (suc n) f h = at_last n f (some_below n f) (f n) refl h

-- two majorities share a member
pub share : (n : ℕ) (f g : ℕ → Bool) → majority_of n ≤ count_below n f → majority_of n ≤ count_below n g → Member n (λ p. f p && g p)
share n f g a b = some_below n (λ p. f p && g p) (let k = count_both n f g in omega arith)

more_step : (x y : Bool) (a b : ℕ) → (x ≡ true → y ≡ true) → a ≤ b → cond x (a + 1) a ≤ cond y (b + 1) b
more_step true true a b f h = omega arith
more_step true false a b f h = absurd (let k = f refl in true≢false (sym k))
more_step false true a b f h = omega arith
more_step false false a b f h = h

-- if one test passes no less than another, it counts no less
pub count_more : (n : ℕ) (f g : ℕ → Bool) → ((p : ℕ) → p < n → f p ≡ true → g p ≡ true) → count_below n f ≤ count_below n g
count_more zero f g h = omega arith
count_more (suc n) f g h = more_step (f n) (g n) (count_below n f) (count_below n g) (h n (omega arith)) (count_more n f g (λ p k. h p (omega arith)))
