-- A word of bytes is the sum of its eight bytes, each at its place.
use Rattle.std.proofs.Common.{◌≡◌, ℕ, ◌+◌, ◌*◌, ◌≤◌, length, List, [], ◌∷◌, take, drop, get_or, ap, ◌∙◌, get_or-drop, add-zero, arith}
use Rattle.std.proofs.lemmas.List.{get_or_past}
use Rattle.mu_rows.specs.Rows.{number_of, word_of}

eight : (bytes : List ℕ) → number_of (take 8 bytes)
    ≡ get_or bytes 0 0 + 256 * get_or bytes 1 0 + 65536 * get_or bytes 2 0 + 16777216 * get_or bytes 3 0
    + 4294967296 * get_or bytes 4 0 + 1099511627776 * get_or bytes 5 0 + 281474976710656 * get_or bytes 6 0 + 72057594037927936 * get_or bytes 7 0
eight [] = omega arith
eight (a ∷ []) = omega arith
eight (a ∷ b ∷ []) = omega arith
eight (a ∷ b ∷ c ∷ []) = omega arith
eight (a ∷ b ∷ c ∷ d ∷ []) = omega arith
eight (a ∷ b ∷ c ∷ d ∷ e ∷ []) = omega arith
eight (a ∷ b ∷ c ∷ d ∷ e ∷ f ∷ []) = omega arith
eight (a ∷ b ∷ c ∷ d ∷ e ∷ f ∷ g ∷ []) = omega arith
eight (a ∷ b ∷ c ∷ d ∷ e ∷ f ∷ g ∷ h ∷ bytes) = omega arith

pub word_of-bytes : (bytes : List ℕ) (index : ℕ) → word_of bytes index
    ≡ get_or bytes (8 * index) 0 + 256 * get_or bytes (8 * index + 1) 0 + 65536 * get_or bytes (8 * index + 2) 0 + 16777216 * get_or bytes (8 * index + 3) 0
    + 4294967296 * get_or bytes (8 * index + 4) 0 + 1099511627776 * get_or bytes (8 * index + 5) 0 + 281474976710656 * get_or bytes (8 * index + 6) 0 + 72057594037927936 * get_or bytes (8 * index + 7) 0
unfolding word_of
word_of-bytes bytes index =
    let at = λ (i : ℕ). get_or-drop (8 * index) bytes i 0 in
    omega (arith, eight (drop (8 * index) bytes), get_or-drop (8 * index) bytes 0 0 ∙ ap (λ i. get_or bytes i 0) (add-zero (8 * index)), at 1, at 2, at 3, at 4, at 5, at 6, at 7)

-- past the end there are zeros
pub word_of-past : (bytes : List ℕ) (index : ℕ) → length bytes ≤ 8 * index → word_of bytes index ≡ 0
word_of-past bytes index past =
    let at : (m : ℕ) → get_or bytes (8 * index + m) 0 ≡ 0 = λ m. get_or_past bytes (8 * index + m) 0 (omega (arith, past)) in
    omega (arith, word_of-bytes bytes index, get_or_past bytes (8 * index) 0 past, at 1, at 2, at 3, at 4, at 5, at 6, at 7)
