-- The first point of a list that isn't met, and that a verb is allowed exactly if there is none.
use Rattle.std.proofs.Common.{ℕ, List, [], ◌++◌, ◌∷◌, ◌≡◌, sym, ◌∙◌, ap, subst, append_assoc}
use Rattle.std.specs.Prelude.{◌↔◌}
use Rattle.mu_model.specs.declared.config.Config.{Config}
use Rattle.mu_model.specs.declared.event.Event.{Event}
use Rattle.mu_model.specs.declared.event.Verb.{Verb}
use Rattle.mu_model.specs.declared.reason.Reason.{Reason}
use Rattle.mu_model.specs.Allowed.{Allowed}
use Rattle.mu_model.specs.Points.{AreMet, IsMet, points}
use Rattle.mu_model.specs.Reasons.{FailsFirst, IsReason}
use Rattle.mu_model.proofs.AllMet.{met_rest}

abbrev first_or : Reason → List Reason → Reason
first_or d [] = d
first_or d (x ∷ xs) = x

abbrev rest_of : List Reason → List Reason
rest_of [] = []
rest_of (x ∷ xs) = xs

-- of two lists of points with the same beginning, the first that fails is the same
one_fails : (c : Config) (r : ℕ) (past : List Event) (xs ys : List Reason) (a b : Reason) (xs2 ys2 : List Reason) → xs ++ a ∷ xs2 ≡ ys ++ b ∷ ys2 → AreMet c r past xs → ¬ IsMet c r past a → AreMet c r past ys → ¬ IsMet c r past b → a ≡ b
one_fails c r past [] [] a b xs2 ys2 same met fails met2 fails2 = ap (first_or a) same
one_fails c r past [] (y ∷ ys) a b xs2 ys2 same met fails met2 fails2 = absurd (fails (subst (λ q. IsMet c r past q) (sym (ap (first_or a) same)) met2.0))
one_fails c r past (x ∷ xs) [] a b xs2 ys2 same met fails met2 fails2 = absurd (fails2 (subst (λ q. IsMet c r past q) (ap (first_or a) same) met.0))
one_fails c r past (x ∷ xs) (y ∷ ys) a b xs2 ys2 same met fails met2 fails2 = one_fails c r past xs ys a b xs2 ys2 (ap rest_of same) met.1 fails met2.1 fails2

pub at_most_one : (c : Config) (r : ℕ) (past : List Event) (reasons : List Reason) (a b : Reason) → FailsFirst c r past reasons a → FailsFirst c r past reasons b → a ≡ b
at_most_one c r past reasons a b one other = one_fails c r past one.before other.before a b one.after other.after (sym one.order ∙ other.order) one.met one.fails other.met other.fails

-- if a point fails, all lists that go on from there have it
pub found_on : (c : Config) (r : ℕ) (past : List Event) (reasons more : List Reason) (q : Reason) → FailsFirst c r past reasons q → FailsFirst c r past (reasons ++ more) q
found_on c r past reasons more q finds = record { before = finds.before; after = finds.after ++ more; order = ap (λ l. l ++ more) finds.order ∙ append_assoc finds.before (q ∷ finds.after) more; met = finds.met; fails = finds.fails }

-- a verb meets all of its points exactly if it is allowed
pub met_where_allowed : (c : Config) (r : ℕ) (past : List Event) (verb : Verb) → (AreMet c r past (points c r past verb) ↔ Allowed c r past verb)
met_where_allowed c r past verb = (
  λ m. record { budget = m.1.0; replica = m.0; may = m.1.1 },
  λ h. (h.replica, (h.budget, h.may)),
)

-- what has a reason isn't allowed
pub reason_denies : (c : Config) (r : ℕ) (past : List Event) (verb : Verb) (reason : Reason) → IsReason c r past verb reason → ¬ Allowed c r past verb
reason_denies c r past verb reason is allowed = is.fails (met_rest c r past is.before (reason ∷ is.after) (subst (AreMet c r past) is.order ((met_where_allowed c r past verb).1 allowed))).0
