-- The first words of a line.
use Rattle.std.proofs.Common.{◌≡◌, ℕ, ◌≤◌, List, [], ◌++◌, length, take, sym, ap, ◌∙◌, append-nil}
use Rattle.std.proofs.lemmas.List.{take_all, take_at}

-- what was taken is the front, if it is as many as were asked for
pub taken_full : {A : Type 0} (n : ℕ) (whole m rest : List A) → whole ≡ m ++ rest → length m ≡ n → m ≡ take n whole
taken_full n whole m rest is all = sym (ap (take n) is ∙ take_at m rest n all)

-- what was taken is the front, if no more were there
pub taken_all : {A : Type 0} (n : ℕ) (whole m : List A) → whole ≡ m ++ [] → length m ≤ n → m ≡ take n whole
taken_all n whole m is few = let same = is ∙ append-nil m in sym (ap (take n) same ∙ take_all n m few)
