-- What several reads and writes moved together.
use Rattle.std.proofs.Common.{◌≡◌, ℕ, ◌+◌, ◌-◌, List, ◌++◌, Option, sym, ap, subst, ◌∙◌, length, take, drop, take-append-drop}
use Rattle.std.proofs.Math.Seq.{take-add}
use Rattle.std.proofs.lemmas.List.{drop-drop, take_at, take_rest}
use Rattle.std.specs.Io.KnownBytes.{Appends}
use Rattle.std.proofs.KnownBytes.{Appends-trans}

-- the first f bytes were appended, and then n more of the rest
pub Appends-taken : (a b c : Option (List ℕ)) (xs : List ℕ) (f n : ℕ)
    → Appends a b (take f xs) → Appends b c (take n (take (length xs - f) (drop f xs))) → Appends a c (take (f + n) xs)
Appends-taken a b c xs f n before more =
    let rest = subst (λ l. Appends b c (take n l)) (take_rest xs f) more in
    subst (Appends a c) (sym (take-add f n xs)) (Appends-trans a b c _ _ before rest)

-- a copy of the next k bytes, and then the rest, are the bytes that were left
pub copied-rest : (left bytes copied after : List ℕ) (given k : ℕ) → left ≡ drop given bytes → copied ≡ take k (take (length bytes - given) (drop given bytes)) → length copied ≡ k
    → left ≡ take k (copied ++ after) ++ drop (given + k) bytes
copied-rest left bytes copied after given k is copy size =
    let next : take k (drop given bytes) ≡ copied = ap (take k) (sym (take_rest bytes given)) ∙ sym copy in
    is ∙ sym (take-append-drop k (drop given bytes)) ∙ ap (λ l. l ++ drop k (drop given bytes)) (next ∙ sym (take_at copied after k size))
    ∙ ap (λ l. take k (copied ++ after) ++ l) (drop-drop k given bytes)
