-- Elements in order of a number of each, its key: first those of the least key. Those of one key
-- keep their order.
use Rattle.std.proofs.Common.{◌≡◌, ◌≢◌, ℕ, zero, suc, ◌+◌, ◌<◌, ◌≤◌, ◌==◌, Bool, true, false, cond, List, [], ◌∷◌, ◌++◌, length, get_or, refl, sym, ap, ◌∙◌, ⊎_elim, arith, length-append, append-nil}
use Rattle.std.specs.Bool.{⊤}
use Rattle.std.specs.List.{All, filter}
use Rattle.std.proofs.lemmas.Bool.{cases_lt, ne_eqb}
use Rattle.std.proofs.lemmas.Bool.Decides.{Decides-eqb, eqb_tells}
use Rattle.std.proofs.lemmas.List.Elements.{All-append, All-cons, All-filter, All-head, All-nil, All-tail, filter-append, filter_passes}

-- the elements of a key
abbrev pub of_key : {A : Type 0} → (A → ℕ) → ℕ → List A → List A
of_key key k xs = filter (λ x. key x == k) xs

-- the elements of the keys below one, in order of their keys
abbrev pub in_key_order : {A : Type 0} → (A → ℕ) → ℕ → List A → List A
in_key_order key zero xs = []
in_key_order key (suc k) xs = in_key_order key k xs ++ of_key key k xs

have_key : {A : Type 0} (key : A → ℕ) (k : ℕ) (xs : List A) → All (λ x. key x ≡ k) (of_key key k xs)
have_key key k xs i d below = (Decides-eqb (key (get_or (of_key key k xs) i d)) k).0 (filter_passes (λ x. key x == k) xs i d below)

keys_below : {A : Type 0} (key : A → ℕ) (k : ℕ) (xs : List A) → All (λ x. key x < k) (in_key_order key k xs)
keys_below key zero xs = All-nil (λ x. key x < zero)
keys_below key (suc k) xs = All-append (λ x. key x < suc k) (in_key_order key k xs) (of_key key k xs)
    (λ i d below. let low = keys_below key k xs i d below in omega (arith, low))
    (λ i d below. let is = have_key key k xs i d below in omega (arith, is))

-- what holds of each element holds of each in order
pub All-in_key_order : {A : Type 0} (key : A → ℕ) (P : A → Type 0) (k : ℕ) (xs : List A) → All P xs → All P (in_key_order key k xs)
All-in_key_order key P zero xs all = All-nil P
All-in_key_order key P (suc k) xs all = All-append P (in_key_order key k xs) (of_key key k xs) (All-in_key_order key P k xs all) (All-filter (λ x. key x == k) P xs all)

-- S of each element and each later one of its key
abbrev pub Pairs : {A : Type 0} → (A → ℕ) → (A → A → Type 0) → List A → Type 0
Pairs key S [] = ⊤
Pairs key S (x ∷ xs) = All (λ y. key x ≡ key y → S x y) xs × Pairs key S xs

pub Pairs-push : {A : Type 0} (key : A → ℕ) (S : A → A → Type 0) (xs : List A) (y : A) → Pairs key S xs → All (λ x. key x ≡ key y → S x y) xs → Pairs key S (xs ++ y ∷ [])
Pairs-push key S [] y pairs all = (All-nil (λ z. key y ≡ key z → S y z), tt)
Pairs-push key S (x ∷ xs) y pairs all = (
  All-append (λ z. key x ≡ key z → S x z) xs (y ∷ []) pairs.0 (All-cons (λ z. key x ≡ key z → S x z) y [] (All-head (λ x. key x ≡ key y → S x y) x xs all) (All-nil (λ z. key x ≡ key z → S x z))),
  Pairs-push key S xs y pairs.1 (All-tail (λ x. key x ≡ key y → S x y) x xs all),
)

Pairs-filter : {A : Type 0} (key : A → ℕ) (S : A → A → Type 0) (p : A → Bool) (xs : List A) → Pairs key S xs → Pairs key S (filter p xs)
Pairs-filter key S p [] pairs = tt
Pairs-filter key S p (x ∷ xs) pairs = elim (p x) as (λ b. Pairs key S (cond b (x ∷ filter p xs) (filter p xs))) [
  | true ↦ (All-filter p (λ y. key x ≡ key y → S x y) xs pairs.0, Pairs-filter key S p xs pairs.1)
  | false ↦ Pairs-filter key S p xs pairs.1
]

Pairs-apart : {A : Type 0} (key : A → ℕ) (S : A → A → Type 0) (k : ℕ) (xs ys : List A) → Pairs key S xs → Pairs key S ys → All (λ x. key x < k) xs → All (λ y. key y ≡ k) ys → Pairs key S (xs ++ ys)
Pairs-apart key S k [] ys front back low same = back
Pairs-apart key S k (x ∷ xs) ys front back low same =
    let here : key x < k = All-head (λ x. key x < k) x xs low in (
      All-append (λ y. key x ≡ key y → S x y) xs ys front.0 (λ i d below. λ e. let there = same i d below in absurd (omega (arith, e, there, here))),
      Pairs-apart key S k xs ys front.1 back (All-tail (λ x. key x < k) x xs low) same,
    )

-- it still holds of those in order
pub Pairs-in_key_order : {A : Type 0} (key : A → ℕ) (S : A → A → Type 0) (k : ℕ) (xs : List A) → Pairs key S xs → Pairs key S (in_key_order key k xs)
Pairs-in_key_order key S zero xs pairs = tt
Pairs-in_key_order key S (suc k) xs pairs =
    Pairs-apart key S k (in_key_order key k xs) (of_key key k xs) (Pairs-in_key_order key S k xs pairs) (Pairs-filter key S (λ x. key x == k) xs pairs) (keys_below key k xs) (have_key key k xs)

filter-all : {A : Type 0} (p : A → Bool) (xs : List A) → All (λ x. p x ≡ true) xs → filter p xs ≡ xs
filter-all p [] all = refl
filter-all p (x ∷ xs) all =
    ap (λ b. cond b (x ∷ filter p xs) (filter p xs)) (All-head (λ x. p x ≡ true) x xs all) ∙ ap (λ rest. x ∷ rest) (filter-all p xs (All-tail (λ x. p x ≡ true) x xs all))

filter-none : {A : Type 0} (p : A → Bool) (xs : List A) → All (λ x. p x ≡ false) xs → filter p xs ≡ []
filter-none p [] all = refl
filter-none p (x ∷ xs) all =
    ap (λ b. cond b (x ∷ filter p xs) (filter p xs)) (All-head (λ x. p x ≡ false) x xs all) ∙ filter-none p xs (All-tail (λ x. p x ≡ false) x xs all)

none_of : {A : Type 0} (key : A → ℕ) (k n : ℕ) (xs : List A) → n ≤ k → of_key key k (in_key_order key n xs) ≡ []
none_of key k n xs above = filter-none (λ x. key x == k) (in_key_order key n xs) (λ i d below. let low = keys_below key n xs i d below in ne_eqb (key (get_or (in_key_order key n xs) i d)) k (λ e. omega (arith, e, low)))

of_key-twice : {A : Type 0} (key : A → ℕ) (k : ℕ) (xs : List A) → of_key key k (of_key key k xs) ≡ of_key key k xs
of_key-twice key k xs = filter-all (λ x. key x == k) (of_key key k xs) (filter_passes (λ x. key x == k) xs)

of_key-other : {A : Type 0} (key : A → ℕ) (k n : ℕ) (xs : List A) → k < n → of_key key k (of_key key n xs) ≡ []
of_key-other key k n xs below = filter-none (λ x. key x == k) (of_key key n xs) (λ i d here. let is = have_key key n xs i d here in ne_eqb (key (get_or (of_key key n xs) i d)) k (λ e. omega (arith, e, is)))

of_key-in : {A : Type 0} (key : A → ℕ) (k n : ℕ) (xs : List A) → k < n → of_key key k (in_key_order key n xs) ≡ of_key key k xs
of_key-in key k zero xs below = absurd (omega arith)
of_key-in key k (suc n) xs below =
    filter-append (λ x. key x == k) (in_key_order key n xs) (of_key key n xs)
    ∙ ⊎_elim
    (λ (t : ((k == n) ≡ true) × (k ≡ n)).
    ap (λ front. front ++ of_key key k (of_key key n xs)) (none_of key k n xs (omega (arith, t.1)))
    ∙ ap (λ n. of_key key k (of_key key n xs)) (sym t.1) ∙ of_key-twice key k xs)
    (λ (t : ((k == n) ≡ false) × (k ≢ n)).
    let less : k < n = omega (arith, t.1) in
    ap (λ back. of_key key k (in_key_order key n xs) ++ back) (of_key-other key k n xs less) ∙ append-nil (of_key key k (in_key_order key n xs)) ∙ of_key-in key k n xs less)
    (eqb_tells k n)

-- what is in order stays as it is
pub in_key_order-twice : {A : Type 0} (key : A → ℕ) (m n : ℕ) (xs : List A) → m ≤ n → in_key_order key m (in_key_order key n xs) ≡ in_key_order key m xs
in_key_order-twice key zero n xs few = refl
in_key_order-twice key (suc m) n xs few =
    ap (λ front. front ++ of_key key m (in_key_order key n xs)) (in_key_order-twice key m n xs (omega arith))
    ∙ ap (λ back. in_key_order key m xs ++ back) (of_key-in key m n xs (omega arith))

one_longer : {A : Type 0} (key : A → ℕ) (n : ℕ) (x : A) (xs : List A)
    → (key x < n → length (in_key_order key n (x ∷ xs)) ≡ length (in_key_order key n xs) + 1) × (n ≤ key x → length (in_key_order key n (x ∷ xs)) ≡ length (in_key_order key n xs))
one_longer key zero x xs = (λ below. absurd (omega arith), λ above. refl)
one_longer {A} key (suc n) x xs =
    let before = one_longer key n x xs in
    let whole = length-append (in_key_order key n xs) (of_key key n xs) in
    let sum : (b : Bool) → (key x == n) ≡ b → length (in_key_order key (suc n) (x ∷ xs)) ≡ length (in_key_order key n (x ∷ xs)) + length (cond b (x ∷ of_key key n xs) (of_key key n xs)) =
    λ b e. length-append (in_key_order key n (x ∷ xs)) (of_key key n (x ∷ xs)) ∙ ap (λ b. length (in_key_order key n (x ∷ xs)) + length (cond b (x ∷ of_key key n xs) (of_key key n xs))) e in
    ⊎_elim
    (λ (t : ((key x == n) ≡ true) × (key x ≡ n)). let here = sum true t.0 in let same = before.1 (omega (arith, t.1)) in
    let less : key x < suc n → length (in_key_order key (suc n) (x ∷ xs)) ≡ length (in_key_order key (suc n) xs) + 1 = λ below. omega (arith, here, same, whole) in
    let more : suc n ≤ key x → length (in_key_order key (suc n) (x ∷ xs)) ≡ length (in_key_order key (suc n) xs) = λ above. absurd (omega (arith, above, t.1)) in
    (less, more))
    (λ (t : ((key x == n) ≡ false) × (key x ≢ n)). let here = sum false t.0 in
    let less : key x < suc n → length (in_key_order key (suc n) (x ∷ xs)) ≡ length (in_key_order key (suc n) xs) + 1 = λ below. let same = before.0 (omega (arith, below, t.1)) in omega (arith, here, same, whole) in
    let more : suc n ≤ key x → length (in_key_order key (suc n) (x ∷ xs)) ≡ length (in_key_order key (suc n) xs) = λ above. let same = before.1 (omega (arith, above)) in omega (arith, here, same, whole) in
    (less, more))
    (eqb_tells (key x) n)

in_key_order-nil : {A : Type 0} (key : A → ℕ) (n : ℕ) → length (in_key_order key n []) ≡ 0
in_key_order-nil key zero = refl
in_key_order-nil {A} key (suc n) = length-append (in_key_order key n []) [] ∙ ap (λ k. k + 0) (in_key_order-nil key n)

-- no element comes to those in order
pub length-in_key_order : {A : Type 0} (key : A → ℕ) (n : ℕ) (xs : List A) → length (in_key_order key n xs) ≤ length xs
length-in_key_order key n [] = omega (arith, in_key_order-nil key n)
length-in_key_order key n (x ∷ xs) =
    let rest = length-in_key_order key n xs in
    let one = one_longer key n x xs in
    ⊎_elim (λ (below : key x < n). omega (arith, one.0 below, rest)) (λ (above : n ≤ key x). omega (arith, one.1 above, rest)) (cases_lt (key x) n)
