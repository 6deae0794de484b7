-- Lists of rows, and of what holds of each element.
use Rattle.std.proofs.Common.{◌≡◌, ◌∙◌, ℕ, suc, ◌-◌, ◌<◌, ◌≤◌, List, [], ◌∷◌, ◌++◌, ap, append-nil, append_assoc, arith, drop, get_or, length, refl, sym, take}
use Rattle.std.specs.List.{AllByRecursion, flat_map}
use Rattle.std.proofs.lemmas.List.{length-append}
use Rattle.mu_server.specs.Holding.{AscendFrom}

pub all-weaker : {A : Type 0} (P Q : A → Type 0) → ((x : A) → P x → Q x) → (xs : List A) → AllByRecursion P xs → AllByRecursion Q xs
all-weaker P Q step [] all = tt
all-weaker P Q step (x ∷ xs) all = (step x all.0, all-weaker P Q step xs all.1)

pub all-append : {A : Type 0} (P : A → Type 0) (xs ys : List A) → AllByRecursion P xs → AllByRecursion P ys → AllByRecursion P (xs ++ ys)
all-append P [] ys first second = second
all-append P (x ∷ xs) ys first second = (first.0, all-append P xs ys first.1 second)

pub all-push : {A : Type 0} (P : A → Type 0) (xs : List A) (x : A) → AllByRecursion P xs → P x → AllByRecursion P (xs ++ x ∷ [])
all-push P [] x all here = (here, tt)
all-push P (y ∷ xs) x all here = (all.0, all-push P xs x all.1 here)

-- what ascends up to a number ascends up to a greater one
pub ascend-more : (low : ℕ) (rows : List ℕ) (n m : ℕ) → n ≤ m → AscendFrom low (rows ++ n ∷ []) → AscendFrom low (rows ++ m ∷ [])
ascend-more low [] n m le up = (omega (arith, le, up.0), tt)
ascend-more low (row ∷ rows) n m le up = (up.0, ascend-more (suc row) rows n m le up.1)

-- and one more may follow
pub ascend-push : (low : ℕ) (rows : List ℕ) (n m : ℕ) → suc n ≤ m → AscendFrom low (rows ++ n ∷ []) → AscendFrom low ((rows ++ n ∷ []) ++ m ∷ [])
ascend-push low [] n m le up = (up.0, (le, tt))
ascend-push low (row ∷ rows) n m le up = (up.0, ascend-push (suc row) rows n m le up.1)

-- one more in the middle of what a list makes
pub flat_map-push : {X A : Type 0} (f : X → List A) (xs : List X) (x : X) → flat_map f (xs ++ x ∷ []) ≡ flat_map f xs ++ f x
flat_map-push f [] x = append-nil (f x)
flat_map-push f (y ∷ xs) x = ap (λ l. f y ++ l) (flat_map-push f xs x) ∙ sym (append_assoc (f y) (flat_map f xs) (f x))

drop-all : (xs ys : List ℕ) → drop (length xs) (xs ++ ys) ≡ ys
drop-all [] ys = refl
drop-all (x ∷ xs) ys = drop-all xs ys

-- what stands behind a front
pub drop-front : (bytes front rest : List ℕ) → bytes ≡ front ++ rest → rest ≡ drop (length bytes - length rest) bytes
drop-front bytes front rest is =
    let count : length bytes - length rest ≡ length front = omega (arith, ap length is, length-append front rest) in
    sym (ap (λ n. drop n bytes) count ∙ ap (drop (length front)) is ∙ drop-all front rest)

-- a list that has a front is it, and the rest
pub front-drop : {A : Type 0} (xs : List A) (x : A) → 0 < length xs → x ≡ get_or xs 0 x → xs ≡ x ∷ drop 1 xs
front-drop [] x some is = absurd (omega arith)
front-drop (y ∷ xs) x some is = ap (λ z. z ∷ xs) (sym is)

take-all : {A : Type 0} (xs ys : List A) → take (length xs) (xs ++ ys) ≡ xs
take-all [] ys = refl
take-all (x ∷ xs) ys = ap (λ l. x ∷ l) (take-all xs ys)

-- what is written over a whole list
pub written : {A : Type 0} (n : ℕ) (new old : List A) → n ≡ length new → take n (new ++ drop (length new) old) ≡ new
written n new old is = ap (λ k. take k (new ++ drop (length new) old)) is ∙ take-all new (drop (length new) old)
