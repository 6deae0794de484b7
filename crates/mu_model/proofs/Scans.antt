-- Steps of a loop over a list of events.
use Rattle.std.proofs.Common.{◌⊎◌, inl, inr, ◌≡◌, ℕ, zero, suc, ◌+◌, ◌-◌, ◌%◌, ◌<◌, ◌≤◌, Bool, true, false, List, [], ◌∷◌, ◌++◌, refl, sym, ◌∙◌, ap, arith, length, take, get_or, ◌&&◌, ◌==◌}
use Rattle.std.specs.Prelude.{if◌then◌else◌, ◌||◌}
use Rattle.mu_model.specs.declared.config.Config.{Config}
use Rattle.mu_model.specs.Contents.{client_of, command_count, is_mark, marked, number_of, numbers_in, rows_from, rows_in, rows_of, session}
use Rattle.mu_model.specs.Histories.{all_below, history}
use Rattle.mu_model.specs.Knowledge.{fetched_prefix, has_entry}
use Rattle.mu_model.specs.Scores.{least_below}
use Rattle.std.proofs.lemmas.Bool.{and_parts, cases_eq, and_from, cases_lt}
use Rattle.std.proofs.lemmas.List.{reverse-append, take_more, append-nil, append_assoc, length-append}
use mathlib.Core.List.{reverse}
use Rattle.mu_model.specs.declared.event.Event.{Event}

-- one more event is the newest
pub history_more : (xs : List Event) (i : ℕ) (e : Event) → i < length xs → e ≡ get_or xs i e → history (take (i + 1) xs) ≡ e ∷ history (take i xs)
history_more xs i e h is = ap reverse (take_more xs i e h) ∙ reverse-append (take i xs) (get_or xs i e ∷ []) ∙ ap (λ x. x ∷ history (take i xs)) (sym is)

-- whether a mark is among the values after one more
pub marked_after : (c : Config) (q v : ℕ) (xs : List ℕ) → marked c q (xs ++ v ∷ []) ≡ (marked c q xs || is_mark c q v)
marked_after c q v [] = go (is_mark c q v)
  where
    go : (t : Bool) → (t || false) ≡ (false || t)
    go true = refl
    go false = refl
marked_after c q v (x ∷ xs) = ap (λ t. is_mark c q x || t) (marked_after c q v xs) ∙ go (is_mark c q x) (marked c q xs) (is_mark c q v)
  where
    go : (t u w : Bool) → (t || (u || w)) ≡ ((t || u) || w)
    go true u w = refl
    go false u w = refl

-- no more of the first values are there than there are
pub front_length : (c : Config) (r : ℕ) (past : List Event) (xs : List ℕ) → length (fetched_prefix c r past xs) ≤ length xs
front_length c r past [] = omega arith
front_length c r past (x ∷ xs) = go (has_entry c r x past) (front_length c r past xs)
  where
    go : (t : Bool) → length (fetched_prefix c r past xs) ≤ length xs → length (if t then (x ∷ fetched_prefix c r past xs) else []) ≤ suc (length xs)
    go true l = omega arith
    go false l = omega arith

-- each number below n passes if all do
pub all_at : (n : ℕ) (f : ℕ → Bool) → all_below n f ≡ true → (p : ℕ) → p < n → f p ≡ true
all_at zero f h p k = absurd (omega arith)
all_at (suc n) f h p k = elim (cases_eq p n) [ inl e ↦ rw e (and_parts (f n) (all_below n f) h).0 | inr e ↦ all_at n f (and_parts (f n) (all_below n f) h).1 p (omega arith) ]

pub session_append : (c : Config) (client : ℕ) (xs ys : List ℕ) → session c client (xs ++ ys) ≡ session c client xs ++ session c client ys
session_append c client [] ys = refl
session_append c client (v ∷ xs) ys =
    ap (λ z. numbers_in c client (rows_of c v) ++ z) (session_append c client xs ys)
    ∙ sym (append_assoc (numbers_in c client (rows_of c v)) (session c client xs) (session c client ys))

-- how many commands of a client are there, after one entry more
pub taken_after : (c : Config) (client v : ℕ) (xs : List ℕ) → command_count c client (xs ++ v ∷ []) ≡ command_count c client xs + length (numbers_in c client (rows_of c v))
taken_after c client v xs =
    ap (λ z. length z) (session_append c client xs (v ∷ []) ∙ ap (λ z. session c client xs ++ z) (append-nil (numbers_in c client (rows_of c v))))
    ∙ length-append (session c client xs) (numbers_in c client (rows_of c v))

row_more : (c : Config) (client n j : ℕ) → length (numbers_in c client (rows_from (suc n) j)) ≡ length (numbers_in c client (rows_from n j)) + (if client_of c (j + n) == client then 1 else 0)
row_more c client zero j = let none : j ≡ j + 0 = omega arith in ap (λ z. length (if client_of c z == client then (number_of c z ∷ []) else [])) none ∙ go (client_of c (j + 0) == client)
  where
    go : (t : Bool) → length (if t then (number_of c (j + 0) ∷ []) else []) ≡ 0 + (if t then 1 else 0)
    go true = refl
    go false = refl
row_more c client (suc n) j =
    let next : j + 1 + n ≡ j + suc n = omega arith in
    go (client_of c j == client) (row_more c client n (j + 1) ∙ ap (λ z. length (numbers_in c client (rows_from n (j + 1))) + (if client_of c z == client then 1 else 0)) next)
  where
    go : (t : Bool) → length (numbers_in c client (rows_from (suc n) (j + 1))) ≡ length (numbers_in c client (rows_from n (j + 1))) + (if client_of c (j + suc n) == client then 1 else 0)
        → length (if t then (number_of c j ∷ numbers_in c client (rows_from (suc n) (j + 1))) else numbers_in c client (rows_from (suc n) (j + 1)))
        ≡ length (if t then (number_of c j ∷ numbers_in c client (rows_from n (j + 1))) else numbers_in c client (rows_from n (j + 1))) + (if client_of c (j + suc n) == client then 1 else 0)
    go true e = let x = e in omega arith
    go false e = e

-- one row more
pub rows_after : (c : Config) (client n j : ℕ) → length (numbers_in c client (rows_from (n + 1) j)) ≡ length (numbers_in c client (rows_from n j)) + (if client_of c (j + n) == client then 1 else 0)
rows_after c client n j = let one : n + 1 ≡ suc n = omega arith in ap (λ z. length (numbers_in c client (rows_from z j))) one ∙ row_more c client n j

pub all_more : (f : ℕ → Bool) (n : ℕ) → all_below (n + 1) f ≡ (f n && all_below n f)
all_more f n = let one : n + 1 ≡ suc n = omega arith in ap (λ z. all_below z f) one

pub each_all : (n : ℕ) (f : ℕ → Bool) → ((j : ℕ) → j < n → f j ≡ true) → all_below n f ≡ true
each_all zero f h = refl
each_all (suc n) f h = and_from (f n) (all_below n f) (h n (omega arith)) (each_all n f (λ j l. h j (omega arith)))

-- the number just below is too small, or none is
pub least_number : (b r x y : ℕ) → b % 8 ≡ r → (b < 16) ⊎ ((b ≤ x + 8) ⊎ (b ≤ y + 8)) → (n : ℕ) → n % 8 ≡ r → 8 ≤ n → x < n → y < n → b ≤ n
least_number b r x y e o n f l m k = omega arith

number_least : (b r x y : ℕ) → b % 8 ≡ r → 16 ≤ b → ((n : ℕ) → n % 8 ≡ r → 8 ≤ n → x < n → y < n → b ≤ n) → (b ≤ x + 8) ⊎ (b ≤ y + 8)
number_least b r x y e l h = elim (cases_lt (x + 8) b) [
  | inr m ↦ inl m
  | inl m ↦ elim (cases_lt (y + 8) b) [
    | inr k ↦ inr k
    | inl k ↦ absurd (let z = h (b - 8) (omega arith) (omega arith) (omega arith) (omega arith) in omega arith)
  ]
]

pub next_is : (b r x y : ℕ) → b % 8 ≡ r → ((n : ℕ) → n % 8 ≡ r → 8 ≤ n → x < n → y < n → b ≤ n) → (b < 16) ⊎ ((b ≤ x + 8) ⊎ (b ≤ y + 8))
next_is b r x y e h = elim (cases_lt b 16) [ inl l ↦ inl l | inr l ↦ inr (number_least b r x y e l h) ]

-- the rows of a list are those of its front and those of its back
pub rows_in-append : (c : Config) (xs ys : List ℕ) → rows_in c (xs ++ ys) ≡ rows_in c xs ++ rows_in c ys
rows_in-append c [] ys = refl
rows_in-append c (x ∷ xs) ys = ap (λ l. rows_of c x ++ l) (rows_in-append c xs ys) ∙ sym (append_assoc (rows_of c x) (rows_in c xs) (rows_in c ys))

-- the least number below n that passes is at most n
pub least_below_fits : (n : ℕ) (test : ℕ → Bool) → least_below n test ≤ n
least_below_fits zero test = omega arith
least_below_fits (suc n) test = go (least_below n test == n) (test n) (least_below_fits n test)
  where
    go : (s t : Bool) → least_below n test ≤ n → (if s then (if t then n else n + 1) else least_below n test) ≤ suc n
    go true true fits = omega arith
    go true false fits = omega arith
    go false t fits = omega (arith, fits)
