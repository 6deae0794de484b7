-- Rows that are added one by one, and rows that are looked for.
use Rattle.std.proofs.Common.{◌≡◌, ℕ, suc, zero, ◌+◌, ◌==◌, Bool, true, false, List, [], ◌∷◌, ◌++◌, length, refl, sym, ap, ◌∙◌, arith, drop, get_or, ◌<◌, ◌≤◌, Some, None, eqb-true}
use Rattle.std.specs.Prelude.{if◌then◌else◌, min}
use Rattle.std.proofs.lemmas.List.{drop_more}
use Rattle.kv_store.specs.declared.store.Reply.{Reply}
use Rattle.mu_clients.specs.Attested.{beside}
use Rattle.mu_model.specs.Contents.{rows_from}

-- one row more
pub rows_next : (n first : ℕ) → rows_from (n + 1) first ≡ rows_from n first ++ (first + n) ∷ []
rows_next n first = let one : n + 1 ≡ suc n = omega arith in ap (λ m. rows_from m first) one ∙ more n first
  where
    more : (n first : ℕ) → rows_from (suc n) first ≡ rows_from n first ++ (first + n) ∷ []
    more zero first = let none : first ≡ first + 0 = omega arith in ap (λ x. x ∷ []) none
    more (suc n) first = let next : first + 1 + n ≡ first + suc n = omega arith in ap (λ l. first ∷ l) (more n (first + 1) ∙ ap (λ x. rows_from n (first + 1) ++ x ∷ []) next)

-- what stands beside a row is not in the first place
pub beside_next : (row i : ℕ) (rows : List ℕ) (replies : List Reply) → i < length rows → i < length replies → (get_or rows i 0 == row) ≡ false
    → beside row (drop (i + 1) rows) (drop (i + 1) replies) ≡ beside row (drop i rows) (drop i replies)
beside_next row i rows replies low there other =
    sym (ap (λ l. beside row l (drop i replies)) (drop_more rows i 0 low) ∙ ap (λ l. beside row (get_or rows i 0 ∷ drop (i + 1) rows) l) (drop_more replies i Reply.None there)
    ∙ ap (λ t. if t then Some (get_or replies i Reply.None) else beside row (drop (i + 1) rows) (drop (i + 1) replies)) other)

beside_none : (row : ℕ) (rows : List ℕ) → beside row rows [] ≡ None
beside_none row [] = refl
beside_none row (x ∷ rows) = refl

-- nothing is left
pub beside_end : (row i : ℕ) (rows : List ℕ) (replies : List Reply) → min (length rows) (length replies) ≤ i → beside row (drop i rows) (drop i replies) ≡ None
beside_end row zero [] replies all = refl
beside_end row zero (x ∷ rows) [] all = refl
beside_end row zero (x ∷ rows) (y ∷ replies) all = absurd (omega (arith, all))
beside_end row (suc i) [] replies all = refl
beside_end row (suc i) (x ∷ rows) [] all = beside_none row (drop i rows)
beside_end row (suc i) (x ∷ rows) (y ∷ replies) all = beside_end row i rows replies (omega (arith, all))

-- numbers that differ fail the test
pub differs : (a b : ℕ) → (a ≡ b → ⊥) → (a == b) ≡ false
differs a b other = go (a == b) refl
  where
    go : (t : Bool) → (a == b) ≡ t → t ≡ false
    go true same = absurd (other (eqb-true a b same))
    go false no' = refl
