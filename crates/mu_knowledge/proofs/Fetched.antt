-- Which words a replica has after an event, and that what it has applied never shrinks.
use Rattle.std.proofs.Common.{◌≡◌, ℕ, zero, suc, ◌+◌, ◌*◌, ◌/◌, ◌%◌, ◌<◌, ◌≤◌, ◌==◌, ◌&&◌, Bool, true, false, cond, List, [], ◌∷◌, ◌++◌, refl, sym, ◌∙◌, arith, Some, length, subst, inl, inr}
use Rattle.std.specs.Prelude.{if◌then◌else◌, nat_lt, ◌||◌, not}
use Rattle.std.specs.List.{slice_get}
use Rattle.std.proofs.lemmas.Bool.{and_parts, eq-eqb, ltb-true}
use Rattle.std.proofs.lemmas.Bool.Decides.{eqb_tells}
use Rattle.mu_model.specs.declared.config.Config.{Config}
use Rattle.mu_model.specs.declared.event.Event.{Event}
use Rattle.mu_model.specs.declared.event.Verb.{Verb}
use Rattle.mu_model.specs.Contents.{IsConfig, begins_batch, is_batch, rest_of, row_count}
use Rattle.mu_model.specs.Histories.{all_below, has}
use Rattle.mu_model.specs.Knowledge.{applied, fetched_prefix, front, has_entry, has_row, has_word, is_read, is_written, known, wrote}
use Rattle.mu_agree.proofs.Knowing.{known_stays}
use Rattle.mu_agree.proofs.Landings.{has_more}
use Rattle.mu_agree.proofs.Sessions.{batch_within, row_within}
use Rattle.mu_agree.proofs.Sound.{all_implied}
use Rattle.mu_model.proofs.Basics.{same_some}

-- all rows of a batch are there
pub batch_there : (c : Config) (v : ℕ) → IsConfig c → is_batch c v ≡ true → (v / 4096 < 7) × (v % 4096 + (rest_of c (v % 4096) + 1) ≤ row_count c)
batch_there c v good is =
    let few = good.replicas.1 in
    let low = ltb-true (v / 4096) c.replicas (and_parts (nat_lt (v / 4096) c.replicas) (nat_lt (v % 4096) (row_count c) && begins_batch c (v % 4096)) is).0 in
    let last = batch_within c good (rest_of c (v % 4096)) (v % 4096) (row_within c v is) refl in
    (omega arith, omega arith)

-- two tests that pass together are the same
same_test : (a b d f : ℕ) → (a ≡ b → d ≡ f) → (d ≡ f → a ≡ b) → (a == b) ≡ (d == f)
same_test a b d f to from = elim (eqb_tells a b) [
  | inl x ↦ x.0 ∙ sym (eq-eqb d f (to x.1))
  | inr x ↦ x.0 ∙ sym (elim (eqb_tells d f) [ inl y ↦ absurd (x.1 (from y.1)) | inr y ↦ y.0 ])
]

-- a payload number is that of a row of a replica
pub row_test : (v r row : ℕ) → row < 4096 → (v == r * 4096 + row) ≡ ((v / 4096 == r) && (row == v % 4096))
row_test v r row low = elim (eqb_tells (v / 4096) r) [
  | inl x ↦ let same = x.1 in rw x.0 (same_test v (r * 4096 + row) row (v % 4096) (λ e. omega arith) (λ e. omega arith))
  | inr x ↦ let other = x.1 in rw x.0 (elim (eqb_tells v (r * 4096 + row)) [ inl y ↦ let is = y.1 in absurd (other (omega arith)) | inr y ↦ y.0 ])
]

-- a word that r writes into its row
pub own_word : (r v k row word x : ℕ) (e : Event) (mine : List Event) → e.verb ≡ Verb.WriteRow row word x → (e.by == r) ≡ true → row < 4096
    → (((v == r * 4096 + row) && (k == word)) || has_word r v k mine) ≡ has_word r v k (e ∷ mine)
own_word r v k row word x e mine verb own low =
    rw (row_test v r row low, same_test k word word k sym sym, verb, own) (go (v / 4096 == r) (row == v % 4096) (word == k) (wrote r (v % 4096) k mine) (has (λ f. is_read r v k f.by f.verb) mine))
  where
    go : (a b d w h : Bool) → (((a && b) && d) || ((a && w) || h)) ≡ ((a && cond (b && d) true w) || h)
    go true true true w h = refl
    go true true false w h = refl
    go true false d w h = refl
    go false b d w h = refl

-- a word that r reads
pub read_word : (r v k w word : ℕ) (e : Event) (mine : List Event) → e.verb ≡ Verb.ReadRow w word → (e.by == r) ≡ true
    → (((v == w) && (k == word)) || has_word r v k mine) ≡ has_word r v k (e ∷ mine)
read_word r v k w word e mine verb own =
    rw (same_test v w w v sym sym, same_test k word word k sym sym, verb, own) (go ((w == v) && (word == k)) ((v / 4096 == r) && wrote r (v % 4096) k mine) (has (λ f. is_read r v k f.by f.verb) mine))
  where
    go : (b o h : Bool) → (b || (o || h)) ≡ (o || cond b true h)
    go true true h = refl
    go true false h = refl
    go false o h = refl

word_stays : (r v k : ℕ) (e : Event) (mine : List Event) → has_word r v k mine ≡ true → has_word r v k (e ∷ mine) ≡ true
word_stays r v k e mine is =
    go (v / 4096 == r) (wrote r (v % 4096) k mine) (has (λ f. is_read r v k f.by f.verb) mine) (wrote r (v % 4096) k (e ∷ mine)) (has (λ f. is_read r v k f.by f.verb) (e ∷ mine)) is
    (has_more (λ f. is_written r (v % 4096) k f.by f.verb) e mine) (has_more (λ f. is_read r v k f.by f.verb) e mine)
  where
    go : (a w h w' h' : Bool) → ((a && w) || h) ≡ true → (w ≡ true → w' ≡ true) → (h ≡ true → h' ≡ true) → ((a && w') || h') ≡ true
    go true true h w' h' is wrote_on read_on = rw (wrote_on refl) refl
    go true false h true h' is wrote_on read_on = refl
    go true false h false h' is wrote_on read_on = read_on is
    go false w h w' h' is wrote_on read_on = read_on is

entry_stays : (c : Config) (r v : ℕ) (e : Event) (mine : List Event) → has_entry c r v mine ≡ true → has_entry c r v (e ∷ mine) ≡ true
entry_stays c r v e mine is = go (is_batch c v) is
  where
    n : ℕ
    n = rest_of c (v % 4096) + 1

    go : (t : Bool) → (not t || all_below n (λ t. has_row r (v + t) mine)) ≡ true → (not t || all_below n (λ t. has_row r (v + t) (e ∷ mine))) ≡ true
    go true all =
        all_implied n (λ t. has_row r (v + t) mine) (λ t. has_row r (v + t) (e ∷ mine))
        (λ t row. all_implied 12 (λ k. has_word r (v + t) k mine) (λ k. has_word r (v + t) k (e ∷ mine)) (λ k word. word_stays r (v + t) k e mine word) row) all
    go false all = refl

-- more pass of a longer list by a weaker test
front_grows : (test later : ℕ → Bool) → ((v : ℕ) → test v ≡ true → later v ≡ true) → (xs rest : List ℕ) → length (front test xs) ≤ length (front later (xs ++ rest))
front_grows test later on [] rest = omega arith
front_grows test later on (x ∷ xs) rest = go (test x) refl (front_grows test later on xs rest)
  where
    go : (t : Bool) → test x ≡ t → length (front test xs) ≤ length (front later (xs ++ rest)) → length (if t then (x ∷ front test xs) else []) ≤ length (if later x then (x ∷ front later (xs ++ rest)) else [])
    go true is more = rw (on x is) (omega (arith, more))
    go false is more = omega arith

-- what is applied stays applied
pub applied_grows : (c : Config) (r : ℕ) (mine : List Event) (e : Event) → length (applied c r mine) ≤ length (applied c r (e ∷ mine))
applied_grows c r mine e =
    let begins = known_stays c r (e ∷ []) mine in
    let more = front_grows (λ v. has_entry c r v mine) (λ v. has_entry c r v (e ∷ mine)) (λ v is. entry_stays c r v e mine is) (known c r mine) begins.0 in
    subst (λ values. length (applied c r mine) ≤ length (fetched_prefix c r (e ∷ mine) values)) (sym begins.1) more

-- one more of the values before the first that fails
pub front_more : (test : ℕ → Bool) (xs : List ℕ) (n v : ℕ) → n ≤ length (front test xs) → slice_get xs n ≡ Some v → test v ≡ true → n + 1 ≤ length (front test xs)
front_more test [] n v low at is = cc
front_more test (x ∷ xs) zero v low at is = let same = same_some x v at in rw (same, is) (omega arith)
front_more test (x ∷ xs) (suc n) v low at is = go (test x) low (front_more test xs n v)
  where
    go : (t : Bool) → suc n ≤ length (if t then (x ∷ front test xs) else []) → (n ≤ length (front test xs) → slice_get xs n ≡ Some v → test v ≡ true → n + 1 ≤ length (front test xs)) → suc n + 1 ≤ length (if t then (x ∷ front test xs) else [])
    go true low more = let next = more (omega (arith, low)) at is in omega (arith, next)
    go false low more = absurd (omega (arith, low))

-- the first that fails
pub front_ends : (test : ℕ → Bool) (xs : List ℕ) (n v : ℕ) → n ≤ length (front test xs) → slice_get xs n ≡ Some v → test v ≡ false → n ≡ length (front test xs)
front_ends test [] n v low at is = cc
front_ends test (x ∷ xs) zero v low at is = let same = same_some x v at in rw (same, is) refl
front_ends test (x ∷ xs) (suc n) v low at is = go (test x) low (front_ends test xs n v)
  where
    go : (t : Bool) → suc n ≤ length (if t then (x ∷ front test xs) else []) → (n ≤ length (front test xs) → slice_get xs n ≡ Some v → test v ≡ false → n ≡ length (front test xs)) → suc n ≡ length (if t then (x ∷ front test xs) else [])
    go true low more = let next = more (omega (arith, low)) at is in omega (arith, next)
    go false low more = absurd (omega (arith, low))

-- no more values than there are
pub front_fits : (test : ℕ → Bool) (xs : List ℕ) → length (front test xs) ≤ length xs
front_fits test [] = omega arith
front_fits test (x ∷ xs) = go (test x) (front_fits test xs)
  where
    go : (t : Bool) → length (front test xs) ≤ length xs → length (if t then (x ∷ front test xs) else []) ≤ suc (length xs)
    go true fits = omega (arith, fits)
    go false fits = omega arith
