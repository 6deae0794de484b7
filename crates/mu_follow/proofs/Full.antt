-- Which rows a log holds with one more entry, and from which length on it holds them all.
use Rattle.std.proofs.Common.{◌≡◌, ℕ, zero, suc, ◌+◌, ◌%◌, ◌<◌, ◌≤◌, ◌==◌, Bool, true, false, List, [], ◌∷◌, ◌++◌, refl, sym, ap, ◌∙◌, inl, inr, arith, length, take, append-nil}
use Rattle.std.specs.Prelude.{if◌then◌else◌, ◌||◌}
use Rattle.std.proofs.lemmas.Bool.{cases_eq, eq-eqb, ne_eqb, true≢false}
use Rattle.std.proofs.lemmas.List.{length-append, take-append-le, take_all}
use Rattle.mu_model.specs.declared.config.Config.{Config}
use Rattle.mu_model.specs.Contents.{holds_all, includes, is_batch, rest_of, row_count, rows_from, rows_in, rows_of}
use Rattle.mu_model.specs.Histories.{all_below}
use Rattle.mu_model.specs.Scores.{least_below}
use Rattle.mu_model.proofs.Scans.{all_at, each_all, rows_in-append}
use Rattle.mu_follow.specs.Completion.{IsFirstMissing, full_of}

-- what two stretches of rows include
pub includes_both : (j : ℕ) (xs ys : List ℕ) → includes j (xs ++ ys) ≡ (includes j xs || includes j ys)
includes_both j [] ys = refl
includes_both j (x ∷ xs) ys = go (x == j) (includes_both j xs ys)
  where
    go : (t : Bool) → includes j (xs ++ ys) ≡ (includes j xs || includes j ys) → (if t then true else includes j (xs ++ ys)) ≡ ((if t then true else includes j xs) || includes j ys)
    go true ih = refl
    go false ih = ih

-- the rows of a log with one more entry
pub includes_next : (c : Config) (j v : ℕ) (values : List ℕ) → includes j (rows_in c (values ++ v ∷ [])) ≡ (includes j (rows_in c values) || includes j (rows_of c v))
includes_next c j v values =
    ap (includes j) (rows_in-append c values (v ∷ []) ∙ ap (λ l. rows_in c values ++ l) (append-nil (rows_of c v))) ∙ includes_both j (rows_in c values) (rows_of c v)

-- the rows of a batch with one more
pub row_next : (n i j : ℕ) (had : Bool) → ((j == i + n) || (had || includes j (rows_from n i))) ≡ (had || includes j (rows_from (n + 1) i))
row_next n i j had = let one : n + 1 ≡ suc n = omega arith in moved (j == i + n) had (includes j (rows_from n i)) ∙ ap (λ t. had || t) (sym (ap (λ m. includes j (rows_from m i)) one ∙ more n i))
  where
    moved : (a b d : Bool) → (a || (b || d)) ≡ (b || (d || a))
    moved true true d = refl
    moved true false true = refl
    moved true false false = refl
    moved false true d = refl
    moved false false true = refl
    moved false false false = refl

    ends : (i : ℕ) → (if i == j then true else false) ≡ (j == i + 0)
    ends i = elim (cases_eq i j) [
      | inl same ↦ rw (eq-eqb i j same, eq-eqb j (i + 0) (omega (arith, same))) refl
      | inr other ↦ rw (ne_eqb i j other, ne_eqb j (i + 0) (λ e. other (omega (arith, e)))) refl
    ]

    more : (n i : ℕ) → includes j (rows_from (suc n) i) ≡ (includes j (rows_from n i) || (j == i + n))
    more zero i = ends i
    more (suc n) i = go (i == j) (more n (i + 1)) (let e : i + 1 + n ≡ i + suc n = omega arith in ap (λ m. j == m) e)
      where
        go : (t : Bool) → includes j (rows_from (suc n) (i + 1)) ≡ (includes j (rows_from n (i + 1)) || (j == i + 1 + n)) → (j == i + 1 + n) ≡ (j == i + suc n)
            → (if t then true else includes j (rows_from (suc n) (i + 1))) ≡ ((if t then true else includes j (rows_from n (i + 1))) || (j == i + suc n))
        go true ih e = refl
        go false ih e = ih ∙ ap (λ t. includes j (rows_from n (i + 1)) || t) e

-- tests that are the same below a number
pub least_same : (n : ℕ) (f g : ℕ → Bool) → ((k : ℕ) → k < n → f k ≡ g k) → least_below n f ≡ least_below n g
least_same zero f g same = refl
least_same (suc n) f g same = rw (least_same n f g (λ k low. same k (omega (arith, low))), same n (omega arith)) refl

least_step : (n : ℕ) (test : ℕ → Bool) → least_below (n + 1) test ≡ (if least_below n test == n then (if test n then n else n + 1) else least_below n test)
least_step n test = let one : n + 1 ≡ suc n = omega arith in ap (λ m. least_below m test) one

-- how many hold all, with one more value
pub full_next : (c : Config) (v : ℕ) (values : List ℕ)
    → full_of c (values ++ v ∷ []) ≡ (if full_of c values == length values + 1 then (if holds_all c (values ++ v ∷ []) then length values + 1 else length values + 2) else full_of c values)
full_next c v values =
    ap (λ n. least_below (n + 1) later) long ∙ least_step (length values + 1) later ∙ rw (least_same (length values + 1) later now same, last) (two (full_of c values == length values + 1) (holds_all c (values ++ v ∷ [])))
  where
    later : ℕ → Bool
    later = λ k. holds_all c (take k (values ++ v ∷ []))

    now : ℕ → Bool
    now = λ k. holds_all c (take k values)

    long : length (values ++ v ∷ []) ≡ length values + 1
    long = length-append values (v ∷ [])

    same : (k : ℕ) → k < length values + 1 → later k ≡ now k
    same k low = ap (holds_all c) (take-append-le k values (v ∷ []) (omega (arith, low)))

    last : later (length values + 1) ≡ holds_all c (values ++ v ∷ [])
    last = ap (holds_all c) (take_all (length values + 1) (values ++ v ∷ []) (omega (arith, long)))

    two : (s t : Bool) → (if s then (if t then length values + 1 else length values + 1 + 1) else full_of c values) ≡ (if s then (if t then length values + 1 else length values + 2) else full_of c values)
    two true true = refl
    two true false = omega arith
    two false t = refl

-- all rows are there if none is missing
pub all_there : (c : Config) (is_there : ℕ → Bool) (first : ℕ) → IsFirstMissing c is_there first → row_count c ≤ first → all_below (row_count c) is_there ≡ true
all_there c is_there first is high = each_all (row_count c) is_there (λ j low. is.below j (omega (arith, low, high)))

-- and not if one is
pub one_missing : (c : Config) (is_there : ℕ → Bool) (first : ℕ) → IsFirstMissing c is_there first → first < row_count c → all_below (row_count c) is_there ≡ false
one_missing c is_there first is low = go (all_below (row_count c) is_there) refl
  where
    go : (t : Bool) → all_below (row_count c) is_there ≡ t → t ≡ false
    go true all = absurd (true≢false (sym (all_at (row_count c) is_there all first low) ∙ is.missing low))
    go false none = refl

-- as many rows as an entry has, from its first on, are the rows of the entry
pub rows_batch : (c : Config) (v n i : ℕ) → is_batch c v ≡ true → n ≡ rest_of c (v % 4096) + 1 → i ≡ v % 4096 → rows_from n i ≡ rows_of c v
rows_batch c v n i batch many first = rw (batch, many, first) refl
