-- What a replica knows holds no more rows than there are.
use Rattle.std.proofs.Common.{◌≡◌, ◌∙◌, ℕ, zero, suc, ◌+◌, ◌%◌, ◌<◌, ◌≤◌, ◌==◌, Bool, true, false, cond, List, [], ◌∷◌, ◌++◌, ap, append_assoc, arith, drop, eqb-true, length, refl, subst, sym, take, true≢false, inl, inr, ◌⊎◌}
use Rattle.std.specs.Prelude.{if◌then◌else◌}
use Rattle.std.specs.List.{AllByRecursion, IsDistinct, list_any}
use Rattle.std.proofs.Math.Dec.{eqb}
use Rattle.std.proofs.lemmas.Bool.{or_cases, or_left, or_right}
use Rattle.std.proofs.lemmas.List.{length-append, length-take, take-append-drop}
use Rattle.std.proofs.lemmas.Map.Keys.{IsDistinct-head, IsDistinct-tail}
use Rattle.kv_store.specs.Commands.{Request}
use Rattle.kv_store.specs.Sessions.{CountsFrom}
use Rattle.mu_rows.proofs.RowsOnce.{Count, at_most, from_above, length-from, once}
use Rattle.mu_model.specs.declared.config.Config.{Config}
use Rattle.mu_model.specs.declared.event.Event.{Event}
use Rattle.mu_model.specs.Contents.{IsConfig, IsInSession, client_of, counted, includes, is_batch, number_of, numbers_in, rest_of, row_count, rows_from, rows_in, rows_of, session}
use Rattle.mu_model.specs.Knowledge.{applied, known}
use Rattle.mu_model.specs.Parts.{IsPossible}
use Rattle.mu_model.proofs.Basics.{or_true, true_or}
use Rattle.mu_model.proofs.Scans.{rows_in-append}
use Rattle.mu_agree.proofs.Sessions.{known_in_session}
use Rattle.mu_knowledge.proofs.Fetched.{batch_there}
use Rattle.mu_follow.specs.Groups.{group_of, groups_of}
use Rattle.mu_follow.proofs.Full.{includes_both}
use Rattle.mu_follow.proofs.Kept.{applied_is}

-- the numbers of a client among rows and others
numbers_append : (c : Config) (client : ℕ) (xs ys : List ℕ) → numbers_in c client (xs ++ ys) ≡ numbers_in c client xs ++ numbers_in c client ys
numbers_append c client [] ys = refl
numbers_append c client (x ∷ xs) ys = go (client_of c x == client) (numbers_append c client xs ys)
  where
    go : (t : Bool) → numbers_in c client (xs ++ ys) ≡ numbers_in c client xs ++ numbers_in c client ys
        → cond t (number_of c x ∷ numbers_in c client (xs ++ ys)) (numbers_in c client (xs ++ ys)) ≡ cond t (number_of c x ∷ numbers_in c client xs) (numbers_in c client xs) ++ numbers_in c client ys
    go true rest = ap (λ l. number_of c x ∷ l) rest
    go false rest = rest

numbers_session : (c : Config) (client : ℕ) (values : List ℕ) → numbers_in c client (rows_in c values) ≡ session c client values
numbers_session c client [] = refl
numbers_session c client (v ∷ vs) = numbers_append c client (rows_of c v) (rows_in c vs) ∙ ap (λ l. numbers_in c client (rows_of c v) ++ l) (numbers_session c client vs)

counted_counts : (n k : ℕ) → CountsFrom k (counted n k)
counted_counts zero k = tt
counted_counts (suc n) k = (refl, counted_counts n (k + 1))

-- what is among rows and others is among one of them
among : (q : ℕ) (xs ys : List ℕ) → list_any (eqb q) (xs ++ ys) ≡ true → (list_any (eqb q) xs ≡ true) ⊎ (list_any (eqb q) ys ≡ true)
among q [] ys there = inr there
among q (x ∷ xs) ys there = elim (or_cases (eqb q x) (list_any (eqb q) (xs ++ ys)) there) [
  | inl here ↦ inl (or_left (eqb q x) (list_any (eqb q) xs) here)
  | inr later ↦ elim (among q xs ys later) [
    | inl one ↦ inl (or_right (eqb q x) (list_any (eqb q) xs) one)
    | inr other ↦ inr other
  ]
]

-- the rows of entries are there
rows_inside : (c : Config) (values : List ℕ) (q : ℕ) → IsConfig c → list_any (eqb q) (rows_in c values) ≡ true → q < row_count c
rows_inside c [] q good there = absurd (true≢false (sym there))
rows_inside c (v ∷ vs) q good there = elim (among q (rows_of c v) (rows_in c vs) there) [
  | inl here ↦ own (is_batch c v) refl here
  | inr later ↦ rows_inside c vs q good later
]
  where
    own : (t : Bool) → is_batch c v ≡ t → list_any (eqb q) (cond t (rows_from (rest_of c (v % 4096) + 1) (v % 4096)) []) ≡ true → q < row_count c
    own true batch here = let within = from_above (rest_of c (v % 4096) + 1) (v % 4096) q here in let low = within.1 in let fits = (batch_there c v good batch).1 in omega (arith, low, fits)
    own false batch here = absurd (true≢false (sym here))

-- the rows that a replica knows stand once each
known_once : (c : Config) (r : ℕ) (mine : List Event) → IsConfig c → IsPossible c r mine → IsDistinct eqb (rows_in c (known c r mine))
known_once c r mine good possible = once c (rows_in c (known c r mine)) counts
  where
    in_session : IsInSession c (known c r mine)
    in_session = subst (λ l. IsInSession c (known c r l)) possible.is (known_in_session c r possible.past good possible.legal)

    counts : Count c (rows_in c (known c r mine))
    counts client = (1, subst (λ l. CountsFrom 1 l) (sym (numbers_session c client (known c r mine) ∙ in_session client)) (counted_counts (length (session c client (known c r mine))) 1))

few_known : (c : Config) (r : ℕ) (mine : List Event) → IsConfig c → IsPossible c r mine → length (rows_in c (known c r mine)) ≤ row_count c
few_known c r mine good possible = at_most (row_count c) (rows_in c (known c r mine)) (known_once c r mine good possible) (λ q there. rows_inside c (known c r mine) q good there)

-- a row that stands apart from others isn't one that is among them
apart_row : (j k : ℕ) (ys : List ℕ) → AllByRecursion (λ y. eqb k y ≡ false) ys → includes j ys ≡ true → (k == j) ≡ false
apart_row j k [] apart there = absurd (true≢false (sym there))
apart_row j k (y ∷ ys) apart there = go (y == j) refl there (apart_row j k ys apart.1)
  where
    go : (t : Bool) → (y == j) ≡ t → (if t then true else includes j ys) ≡ true → (includes j ys ≡ true → (k == j) ≡ false) → (k == j) ≡ false
    go true same there rest = subst (λ z. (k == z) ≡ false) (eqb-true y j same) apart.0
    go false other there rest = rest there

-- of rows that stand once each, one that is among the later ones isn't among the earlier ones
later_apart : (j : ℕ) (xs ys : List ℕ) → IsDistinct eqb (xs ++ ys) → includes j ys ≡ true → includes j xs ≡ false
later_apart j [] ys all there = refl
later_apart j (x ∷ xs) ys all there =
    let other = apart_row j x (xs ++ ys) (IsDistinct-head eqb x (xs ++ ys) all) (includes_both j xs ys ∙ or_true (includes j xs) (includes j ys) there) in
    ap (λ t. if t then true else includes j xs) other ∙ later_apart j xs ys (IsDistinct-tail eqb x (xs ++ ys) all) there

-- a row of the entries that are applied after the first n is none of these
pub first_lack : (c : Config) (r n row : ℕ) (mine : List Event) → IsConfig c → IsPossible c r mine → includes row (rows_in c (drop n (applied c r mine))) ≡ true → includes row (rows_in c (take n (applied c r mine))) ≡ false
first_lack c r n row mine good possible there =
    let values = known c r mine in
    let log = applied c r mine in
    let first = rows_in c (take n log) in
    let next = rows_in c (drop n log) in
    let rest = rows_in c (drop (length log) values) in
    let whole = sym (ap (rows_in c) (take-append-drop (length log) values)) ∙ (rows_in-append c (take (length log) values) (drop (length log) values) ∙ ap (λ l. rows_in c l ++ rest) (applied_is c r mine)) in
    let halves = sym (ap (rows_in c) (take-append-drop n log)) ∙ rows_in-append c (take n log) (drop n log) in
    let parts = whole ∙ (ap (λ l. l ++ rest) halves ∙ append_assoc first next rest) in
    later_apart row first (next ++ rest) (subst (λ l. IsDistinct eqb l) parts (known_once c r mine good possible)) (includes_both row next rest ∙ true_or (includes row next) (includes row rest) there)

-- the first entries have no more rows than all
rows_first : (c : Config) (n : ℕ) (values : List ℕ) → length (rows_in c (take n values)) ≤ length (rows_in c values)
rows_first c n values =
    let whole = ap (λ l. length (rows_in c l)) (take-append-drop n values) in
    let both = ap length (rows_in-append c (take n values) (drop n values)) in
    let long = length-append (rows_in c (take n values)) (rows_in c (drop n values)) in
    omega (arith, whole, both, long)

-- the first entries that are applied have no more rows than there are
pub few_rows_first : (c : Config) (r n : ℕ) (mine : List Event) → IsConfig c → IsPossible c r mine → length (rows_in c (take n (applied c r mine))) ≤ row_count c
few_rows_first c r n mine good possible =
    let first = rows_first c n (applied c r mine) in
    let is = ap (λ l. length (rows_in c l)) (applied_is c r mine) in
    let all = rows_first c (length (applied c r mine)) (known c r mine) in
    let few = few_known c r mine good possible in
    omega (arith, first, is, all, few)

-- an entry has no more commands than rows
group_rows : (c : Config) (commands : List Request) (v : ℕ) → length (group_of c commands v) ≤ length (rows_of c v)
group_rows c commands v = go (is_batch c v)
  where
    go : (t : Bool) → length (cond t (take (rest_of c (v % 4096) + 1) (drop (v % 4096) commands)) []) ≤ length (cond t (rows_from (rest_of c (v % 4096) + 1) (v % 4096)) [])
    go true = let some = length-take (rest_of c (v % 4096) + 1) (drop (v % 4096) commands) in let all = length-from (rest_of c (v % 4096) + 1) (v % 4096) in omega (arith, some, all)
    go false = omega arith

groups_rows : (c : Config) (commands : List Request) (values : List ℕ) → length (groups_of c commands values) ≤ length (rows_in c values)
groups_rows c commands [] = omega arith
groups_rows c commands (v ∷ vs) =
    let one = group_rows c commands v in
    let rest = groups_rows c commands vs in
    let mine = length-append (group_of c commands v) (groups_of c commands vs) in
    let all = length-append (rows_of c v) (rows_in c vs) in
    omega (arith, one, rest, mine, all)

-- what the first entries that are applied stand for are no more commands than there are rows
pub few_first : (c : Config) (r n : ℕ) (mine : List Event) (commands : List Request) → IsConfig c → IsPossible c r mine → length (groups_of c commands (take n (applied c r mine))) ≤ row_count c
few_first c r n mine commands good possible = let some = groups_rows c commands (take n (applied c r mine)) in let few = few_rows_first c r n mine good possible in omega (arith, some, few)

-- and so all that are applied
pub few_applied : (c : Config) (r : ℕ) (mine : List Event) (commands : List Request) → IsConfig c → IsPossible c r mine → length (groups_of c commands (applied c r mine)) ≤ row_count c
few_applied c r mine commands good possible =
    let some = groups_rows c commands (applied c r mine) in
    let is = ap (λ l. length (rows_in c l)) (applied_is c r mine) in
    let all = rows_first c (length (applied c r mine)) (known c r mine) in
    let few = few_known c r mine good possible in
    omega (arith, some, is, all, few)
