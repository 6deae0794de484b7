-- Lists of points that are met.
use Rattle.std.proofs.Common.{List, [], ◌++◌, ◌∷◌, ℕ, zero, suc, ◌<◌, ◌≡◌, sym, subst, inl, inr, arith}
use Rattle.std.specs.Prelude.{◌⊎◌}
use Rattle.std.proofs.lemmas.Bool.{cases_eq}
use Rattle.mu_model.specs.declared.config.Config.{Config}
use Rattle.mu_model.specs.declared.event.Event.{Event}
use Rattle.mu_model.specs.declared.reason.Reason.{Reason}
use Rattle.mu_model.specs.Points.{AreMet, each_below}

pub met_append : (c : Config) (r : ℕ) (past : List Event) (xs ys : List Reason) → AreMet c r past xs → AreMet c r past ys → AreMet c r past (xs ++ ys)
met_append c r past [] ys a b = b
met_append c r past (x ∷ xs) ys a b = (a.0, met_append c r past xs ys a.1 b)

pub met_front : (c : Config) (r : ℕ) (past : List Event) (xs ys : List Reason) → AreMet c r past (xs ++ ys) → AreMet c r past xs
met_front c r past [] ys a = tt
met_front c r past (x ∷ xs) ys a = (a.0, met_front c r past xs ys a.1)

pub met_rest : (c : Config) (r : ℕ) (past : List Event) (xs ys : List Reason) → AreMet c r past (xs ++ ys) → AreMet c r past ys
met_rest c r past [] ys a = a
met_rest c r past (x ∷ xs) ys a = met_rest c r past xs ys a.1

below_or_last : (j n : ℕ) → j < suc n → (j < n) ⊎ (j ≡ n)
below_or_last j n low = elim (cases_eq j n) [ inl e ↦ inr e | inr e ↦ inl (omega (arith, low, e)) ]

-- all are met if those of each number are
pub each_met : (c : Config) (r : ℕ) (past : List Event) (n : ℕ) (of_each : ℕ → List Reason) → ((j : ℕ) → j < n → AreMet c r past (of_each j)) → AreMet c r past (each_below n of_each)
each_met c r past zero of_each all = tt
each_met c r past (suc n) of_each all = met_append c r past (each_below n of_each) (of_each n) (each_met c r past n of_each (λ j low. all j (omega (arith, low)))) (all n (omega arith))

pub met_each : (c : Config) (r : ℕ) (past : List Event) (n : ℕ) (of_each : ℕ → List Reason) → AreMet c r past (each_below n of_each) → (j : ℕ) → j < n → AreMet c r past (of_each j)
met_each c r past zero of_each all j low = absurd (omega (arith, low))
met_each c r past (suc n) of_each all j low = elim (below_or_last j n low) [
  | inl below ↦ met_each c r past n of_each (met_front c r past (each_below n of_each) (of_each n) all) j below
  | inr last ↦ subst (λ k. AreMet c r past (of_each k)) (sym last) (met_rest c r past (each_below n of_each) (of_each n) all)
]
