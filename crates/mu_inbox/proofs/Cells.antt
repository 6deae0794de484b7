-- Different words of a list stand at different places of memory.
use Rattle.std.proofs.Common.{◌≡◌, ℕ, ◌+◌, ◌*◌, ◌/◌, ◌%◌, ◌<◌, ◌≤◌, ◌⊎◌, inl, inr, sym, ap, ◌∙◌, arith}
use Rattle.std.proofs.lemmas.Bool.{cases_order}
use Rattle.mu_inbox.specs.declared.access.Cell.{Cell}
use Rattle.mu_inbox.specs.Shapes.{CellsDiffer}

-- the parts of a row's word, by its number among the words of rows
quotient : (n k : ℕ) → k < 12 → (n * 12 + k) / 12 ≡ n
quotient n k few = omega (arith, few)

rest : (n k : ℕ) → k < 12 → (n * 12 + k) % 12 ≡ k
rest n k few = omega (arith, few)

same_place : (room n m k l : ℕ) → room + n * 12 + k ≡ room + m * 12 + l → n * 12 + k ≡ m * 12 + l
same_place room n m k l e = omega (arith, e)

-- the writer and the row of a number of a row
writer_less : (room w v j i : ℕ) → j < room → w < v → w * room + j ≡ v * room + i → ⊥
writer_less room w v j i few less e = nope (product room w v less)
  where
    product : (room w v : ℕ) → w < v → w * room + room ≤ v * room
    product room w v less = grind (arith, less)

    nope : w * room + room ≤ v * room → ⊥
    nope most = omega (arith, few, e, most)

same_writer : (room w v j i : ℕ) → j < room → i < room → w * room + j ≡ v * room + i → (w ≡ v) ⊎ ((w < v) ⊎ (v < w)) → w ≡ v
same_writer room w v j i few more e (inl same) = same
same_writer room w v j i few more e (inr (inl less)) = absurd (writer_less room w v j i few less e)
same_writer room w v j i few more e (inr (inr less)) = absurd (writer_less room v w i j more less (sym e))

same_row : (room w v j i : ℕ) → w ≡ v → w * room + j ≡ v * room + i → j ≡ i
same_row room w v j i same e = cancel (v * room) (sym (ap (λ (x : ℕ). x * room + j) same) ∙ e)
  where
    cancel : (n : ℕ) → n + j ≡ n + i → j ≡ i
    cancel n is = omega (arith, is)

pub cells_law : CellsDiffer
cells_law s (Cell.Place p) (Cell.Place q) a b e = ap (λ (x : ℕ). Cell.Place x) e
cells_law s (Cell.Place p) (Cell.Word w j k) a b e = absurd (apart a e)
  where
    apart : p < s.room → p ≡ s.room + (w * s.room + j) * 12 + k → ⊥
    apart less same = omega (arith, less, same)
cells_law s (Cell.Word w j k) (Cell.Place q) a b e = absurd (apart b e)
  where
    apart : q < s.room → s.room + (w * s.room + j) * 12 + k ≡ q → ⊥
    apart less same = omega (arith, less, same)
cells_law s (Cell.Word w j k) (Cell.Word v i l) a b e =
    let at = same_place s.room (w * s.room + j) (v * s.room + i) k l e in
    let word : k ≡ l = sym (rest (w * s.room + j) k a.2) ∙ (ap (λ (x : ℕ). x % 12) at ∙ rest (v * s.room + i) l b.2) in
    let number : w * s.room + j ≡ v * s.room + i = sym (quotient (w * s.room + j) k a.2) ∙ (ap (λ (x : ℕ). x / 12) at ∙ quotient (v * s.room + i) l b.2) in
    let writer = same_writer s.room w v j i a.1 b.1 number (cases_order w v) in
    let row : j ≡ i = same_row s.room w v j i writer number in
    λ x. Cell.Word (writer x) (row x) (word x)
