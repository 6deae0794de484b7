-- What is left to print, and the same lines spelled otherwise.
use Rattle.std.proofs.Common.{◌≡◌, ℕ, List, [], ◌∷◌, ◌++◌, subst, sym}
use Rattle.std.specs.Fmt.{decimal}

-- once `rest` is printed, all of `lines` were printed since s
abbrev pub Leaves : {S : Type 0} (Prints : S → List (List ℕ) → S → Type 0) → S → List (List ℕ) → S → List (List ℕ) → Type 0
Leaves Prints s lines t rest = (u : _) → Prints t rest u → Prints s lines u

-- a piece of what was left is printed
pub leaves : {S : Type 0} (Prints : S → List (List ℕ) → S → Type 0)
    → ((s t u : S) (xs ys : List (List ℕ)) → Prints s xs t → Prints t ys u → Prints s (xs ++ ys) u)
    → {s t u : S} {lines rest piece more : List (List ℕ)}
    → Leaves Prints s lines t rest → rest ≡ piece ++ more → Prints t piece u → Leaves Prints s lines u more
leaves Prints append {s} {t} {u} {lines} {rest} {piece} {more} left is printed v later =
    left v (subst (λ l. Prints t l v) (sym is) (append t u v piece more printed later))

-- nothing is left
pub printed : {S : Type 0} (Prints : S → List (List ℕ) → S → Type 0) → ((s : S) → Prints s [] s)
    → {s t : S} {lines rest : List (List ℕ)} → Leaves Prints s lines t rest → rest ≡ [] → Prints s lines t
printed Prints nothing {s} {t} {lines} {rest} left none = left t (subst (λ l. Prints t l t) (sym none) (nothing t))

pub same_lines : {S : Type 0} (Prints : S → List (List ℕ) → S → Type 0) → {s t : S} {xs ys : List (List ℕ)} → xs ≡ ys → Prints s xs t → Prints s ys t
same_lines Prints {s} {t} is = subst (λ l. Prints s l t) is

pub same_line : {S : Type 0} (Prints : S → List (List ℕ) → S → Type 0) → {s t : S} {line words : List ℕ} → line ≡ words → Prints s (line ∷ []) t → Prints s (words ∷ []) t
same_line Prints {s} {t} is = subst (λ l. Prints s (l ∷ []) t) is

pub same_number : {S : Type 0} (Prints : S → List (List ℕ) → S → Type 0) → (words : List ℕ) → {s t : S} {m n : ℕ} → m ≡ n → Prints s ((words ++ decimal m) ∷ []) t → Prints s ((words ++ decimal n) ∷ []) t
same_number Prints words {s} {t} is = subst (λ k. Prints s ((words ++ decimal k) ∷ []) t) is
