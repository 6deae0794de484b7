use Rattle.std.proofs.Common.{[], ◌++◌, ◌∷◌, ◌≡◌, ◌≤◌, ℕ, List, refl, sym, arith, subst, length, Bool, true, false}
use Rattle.std.specs.Prelude.{if◌then◌else◌, nat_le}
use Rattle.std.specs.List.{slice_get}
use Rattle.std.proofs.lemmas.Bool.{false≢true, le-leb, leb-true}
use Rattle.mu_model.specs.Knowledge.{applied, known}
use Rattle.mu_model.specs.declared.reason.Reason.{Reason}
use Rattle.mu_model.specs.Points.{entry_there}
use Rattle.mu_model.specs.Reasons.{Finds}
use Rattle.mu_replicas.proofs.Points.{apart, no_more}
use Rattle.mu_replicas.proofs.replica.Replica.why_not_applied.Goals as goal

-- a head that is reached lacks nothing, and one that isn't lacks this
reached : (h count : ℕ) (xs : List Reason) → h ≤ count → (if nat_le h count then [] else xs) ≡ []
reached h count xs low = rw (le-leb h count low) refl

missed : (h count : ℕ) (xs : List Reason) → (h ≤ count → ⊥) → (if nat_le h count then [] else xs) ≡ xs
missed h count xs high = go (nat_le h count) refl
  where
    go : (t : Bool) → nat_le h count ≡ t → (if t then [] else xs) ≡ xs
    go true is = absurd (high (leb-true h count is))
    go false is = refl

pub returns-then-done : goal.returns-then-done
returns-then-done c r mine reasons held start =
    let g = c.args.config.now in
    let h = c.args.h in
    let count = c.applied_count-applied.ensures.tells g r mine held.held_rows in
    let done = c.if-done.true in
    let all = length (applied g r mine) in
    let low : h ≤ all = omega (arith, c.from.ensures, count, done) in
    let xs = entry_there g h all (slice_get (known g r mine) all) ++ Reason.NotApplied h all ∷ [] in
    subst (λ l. Finds g r mine (reasons ++ l) c.args.found.reason) (sym (reached h all xs low)) (no_more g r mine reasons _ start)

pub returns : goal.returns
returns c r mine reasons held start =
    let g = c.args.config.now in
    let h = c.args.h in
    let count = c.applied_count-applied.ensures.tells g r mine held.held_rows in
    let done = c.if-done.false in
    let all = length (applied g r mine) in
    let high : h ≤ all → ⊥ = λ low. omega (arith, c.from.ensures, count, done, low) in
    let there = entry_there g h all (slice_get (known g r mine) all) in
    let xs = there ++ Reason.NotApplied h all ∷ [] in
    let one = subst (λ n. Finds g r mine (reasons ++ entry_there g h n (slice_get (known g r mine) n)) c.why_next_not_there-found.result.reason) count (c.why_next_not_there-found.ensures r mine reasons held start) in
    let two = c.needs.ensures g r mine (reasons ++ there) (subst (λ n. Finds g r mine (reasons ++ there) c.why_next_not_there-found.result.reason) count one) (λ m. (λ is. absurd (false≢true is), λ low. absurd (high (subst (λ n. h ≤ n) count low)))) in
    let three = subst (λ n. Finds g r mine ((reasons ++ there) ++ Reason.NotApplied h n ∷ []) c.needs.result.reason) count two in
    subst (λ l. Finds g r mine (reasons ++ l) c.needs.result.reason) (sym (missed h all xs high)) (apart g r mine reasons there (Reason.NotApplied h all ∷ []) _ three)
