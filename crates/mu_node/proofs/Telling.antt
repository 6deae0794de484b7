-- Where a row stands among those of entries, and the reply beside it.
use Rattle.std.proofs.Common.{◌≡◌, ◌∙◌, ℕ, zero, suc, ◌+◌, ◌%◌, ◌<◌, ◌≤◌, ◌==◌, ◌||◌, Bool, true, false, cond, List, [], ◌∷◌, ◌++◌, None, Some, ap, append-nil, append_assoc, arith, drop, length, length-append, refl, subst, sym, take, true≢false}
use Rattle.std.specs.Prelude.{if◌then◌else◌}
use Rattle.std.specs.declared.option.Option.{Option}
use Rattle.std.specs.List.{slice_get}
use Rattle.std.proofs.lemmas.Bool.{ne_eqb}
use Rattle.std.proofs.lemmas.List.{take-append-drop}
use Rattle.kv_store.specs.Beside.{beside}
use Rattle.kv_store.specs.declared.store.Reply.{Reply}
use Rattle.mu_rows.proofs.RowsOnce.{length-from}
use Rattle.mu_model.specs.declared.config.Config.{Config}
use Rattle.mu_model.specs.Contents.{includes, is_batch, rest_of, rows_from, rows_in, rows_of}
use Rattle.mu_model.proofs.Basics.{none_of_or, or_true, same_number, true_or}
use Rattle.mu_model.proofs.Scans.{rows_in-append}
use Rattle.mu_follow.specs.Groups.{group_size}
use Rattle.mu_follow.proofs.Full.{includes_both}
use Rattle.mu_follow.proofs.Growing.{from_below}
use Rattle.mu_node.specs.Telling.{IsFirstAt, TellsPlace}
use Rattle.mu_node.proofs.Answering.{take_more, take_whole}

-- nothing stands beside a number that isn't there
pub beside_none : (x : ℕ) (rows : List ℕ) (told : List Reply) → includes x rows ≡ false → beside x rows told ≡ None
beside_none x [] told lacks = refl
beside_none x (row ∷ rows) [] lacks = refl
beside_none x (row ∷ rows) (reply ∷ told) lacks = go (row == x) lacks (beside_none x rows told)
  where
    go : (t : Bool) → (if t then true else includes x rows) ≡ false → (includes x rows ≡ false → beside x rows told ≡ None) → (if t then Some reply else beside x rows told) ≡ None
    go true lacks rest = absurd (true≢false lacks)
    go false lacks rest = rest lacks

beside_first : (x : ℕ) (before after : List ℕ) (told : List Reply) → includes x before ≡ false → beside x (before ++ x ∷ after) told ≡ slice_get told (length before)
beside_first x [] after [] lacks = refl
beside_first x [] after (reply ∷ told) lacks = ap (λ t. if t then Some reply else beside x after told) (same_number x)
beside_first x (row ∷ before) after [] lacks = refl
beside_first x (row ∷ before) after (reply ∷ told) lacks = go (row == x) lacks (beside_first x before after told)
  where
    go : (t : Bool) → (if t then true else includes x before) ≡ false → (includes x before ≡ false → beside x (before ++ x ∷ after) told ≡ slice_get told (length before))
        → (if t then Some reply else beside x (before ++ x ∷ after) told) ≡ slice_get told (length before)
    go true lacks rest = absurd (true≢false lacks)
    go false lacks rest = rest lacks

-- beside one that is there stands what is in its place
pub beside_place : (x : ℕ) (rows : List ℕ) (told : List Reply) (at : ℕ) → IsFirstAt x rows at → beside x rows told ≡ slice_get told at
beside_place x rows told at first = ap (λ l. beside x l told) first.whole ∙ (beside_first x first.before first.after told first.lacks ∙ ap (λ n. slice_get told n) first.count)

-- a row that isn't among those of entries isn't among those of the first of them
pub lacked_first : (c : Config) (n row : ℕ) (entries : List ℕ) → includes row (rows_in c entries) ≡ false → includes row (rows_in c (take n entries)) ≡ false
lacked_first c n row entries lacks =
    let first : List ℕ = rows_in c (take n entries) in
    let rest : List ℕ = rows_in c (drop n entries) in
    let whole = ap (λ l. includes row (rows_in c l)) (take-append-drop n entries) in
    let parts = ap (includes row) (rows_in-append c (take n entries) (drop n entries)) ∙ includes_both row first rest in
    none_of_or (includes row first) (includes row rest) (sym parts ∙ (whole ∙ lacks))

-- its place after others that aren't it
first_after : (x : ℕ) (xs ys zs : List ℕ) (at : ℕ) → includes x xs ≡ false → IsFirstAt x ys at → IsFirstAt x (xs ++ (ys ++ zs)) (length xs + at)
first_after x xs ys zs at lacks first = record {
  before = xs ++ first.before;
  after = first.after ++ zs;
  whole = ap (λ l. xs ++ (l ++ zs)) first.whole ∙ (ap (λ l. xs ++ l) (append_assoc first.before (x ∷ first.after) zs) ∙ sym (append_assoc xs first.before (x ∷ (first.after ++ zs))));
  count = length-append xs first.before ∙ ap (λ n. length xs + n) first.count;
  lacks = includes_both x xs first.before ∙ (ap (λ t. t || includes x first.before) lacks ∙ first.lacks);
}

-- rows from a number on, at one of them
from_split : (n j t : ℕ) → t < n → (after : List ℕ) × (rows_from n j ≡ rows_from t j ++ (j + t) ∷ after)
from_split zero j t low = absurd (omega (arith, low))
from_split (suc n) j zero low = let same : j ≡ j + 0 = omega arith in (rows_from n (j + 1), ap (λ x. x ∷ rows_from n (j + 1)) same)
from_split (suc n) j (suc t) low =
    let rest = from_split n (j + 1) t (omega (arith, low)) in
    let same : j + 1 + t ≡ j + suc t = omega arith in (rest.0, ap (λ l. j ∷ l) (rest.1 ∙ ap (λ x. rows_from t (j + 1) ++ x ∷ rest.0) same))

-- and below them
from_over : (n i j : ℕ) → j < i → includes j (rows_from n i) ≡ false
from_over zero i j low = refl
from_over (suc n) i j low = ap (λ t. if t then true else includes j (rows_from n (i + 1))) (ne_eqb i j (λ same. omega (arith, low, same))) ∙ from_over n (i + 1) j (omega (arith, low))

-- a row of an entry
pub row_place : (c : Config) (v row t : ℕ) → row ≡ v % 4096 + t → t < group_size c v → IsFirstAt row (rows_of c v) t
row_place c v row t is low = subst (λ x. IsFirstAt x (rows_of c v) t) (sym is) (go (is_batch c v) low)
  where
    go : (b : Bool) → t < cond b (rest_of c (v % 4096) + 1) 0 → IsFirstAt (v % 4096 + t) (cond b (rows_from (rest_of c (v % 4096) + 1) (v % 4096)) []) t
    go true low =
        let split = from_split (rest_of c (v % 4096) + 1) (v % 4096) t low in
        record { before = rows_from t (v % 4096); after = split.0; whole = split.1; count = length-from t (v % 4096); lacks = from_below t (v % 4096) (v % 4096 + t) (omega arith) }
    go false low = absurd (omega (arith, low))

-- others aren't among them
pub row_below : (c : Config) (v row : ℕ) → row < v % 4096 → includes row (rows_of c v) ≡ false
row_below c v row low = go (is_batch c v)
  where
    go : (b : Bool) → includes row (cond b (rows_from (rest_of c (v % 4096) + 1) (v % 4096)) []) ≡ false
    go true = from_over (rest_of c (v % 4096) + 1) (v % 4096) row low
    go false = refl

pub row_above : (c : Config) (v row : ℕ) → v % 4096 + group_size c v ≤ row → includes row (rows_of c v) ≡ false
row_above c v row high = go (is_batch c v) high
  where
    go : (b : Bool) → v % 4096 + cond b (rest_of c (v % 4096) + 1) 0 ≤ row → includes row (cond b (rows_from (rest_of c (v % 4096) + 1) (v % 4096)) []) ≡ false
    go true high = from_below (rest_of c (v % 4096) + 1) (v % 4096) row high
    go false high = refl

-- how many rows an entry has
group_long : (c : Config) (v : ℕ) → length (rows_of c v) ≡ group_size c v
group_long c v = go (is_batch c v)
  where
    go : (b : Bool) → length (cond b (rows_from (rest_of c (v % 4096) + 1) (v % 4096)) []) ≡ cond b (rest_of c (v % 4096) + 1) 0
    go true = length-from (rest_of c (v % 4096) + 1) (v % 4096)
    go false = refl

-- the rows of entries, at one of these
rows_split : (c : Config) (entries : List ℕ) (i v : ℕ) → slice_get entries i ≡ Some v → rows_in c entries ≡ rows_in c (take i entries) ++ (rows_of c v ++ rows_in c (drop (i + 1) entries))
rows_split c entries i v at =
    let rest : List ℕ = rows_in c (drop (i + 1) entries) in
    sym (ap (rows_in c) (take-append-drop (i + 1) entries))
    ∙ (rows_in-append c (take (i + 1) entries) (drop (i + 1) entries)
    ∙ (ap (λ l. rows_in c l ++ rest) (take_more i entries v at)
    ∙ (ap (λ l. l ++ rest) (rows_in-append c (take i entries) (v ∷ []) ∙ ap (λ l. rows_in c (take i entries) ++ l) (append-nil (rows_of c v))) ∙ append_assoc (rows_in c (take i entries)) (rows_of c v) rest)))

-- a row that is among those of one of the entries
pub row_here : (c : Config) (entries : List ℕ) (row i v at : ℕ) → slice_get entries i ≡ Some v → IsFirstAt row (rows_of c v) at → includes row (rows_in c entries) ≡ true
row_here c entries row i v at there first =
    let before : List ℕ = rows_in c (take i entries) in
    let rest : List ℕ = rows_in c (drop (i + 1) entries) in
    let own = ap (includes row) first.whole ∙ (includes_both row first.before (row ∷ first.after) ∙ or_true (includes row first.before) (includes row (row ∷ first.after)) (ap (λ t. if t then true else includes row first.after) (same_number row))) in
    let later = includes_both row (rows_of c v) rest ∙ true_or (includes row (rows_of c v)) (includes row rest) own in
    ap (includes row) (rows_split c entries i v there) ∙ (includes_both row before (rows_of c v ++ rest) ∙ or_true (includes row before) (includes row (rows_of c v ++ rest)) later)

-- the rows of one entry more
rows_more : (c : Config) (entries : List ℕ) (i v : ℕ) → slice_get entries i ≡ Some v → rows_in c (take (i + 1) entries) ≡ rows_in c (take i entries) ++ rows_of c v
rows_more c entries i v at = ap (rows_in c) (take_more i entries v at) ∙ (rows_in-append c (take i entries) (v ∷ []) ∙ ap (λ l. rows_in c (take i entries) ++ l) (append-nil (rows_of c v)))

-- a row that isn't among those of the first entries, nor of the next one
pub lacked_next : (c : Config) (entries : List ℕ) (row i v : ℕ) → slice_get entries i ≡ Some v → includes row (rows_in c (take i entries)) ≡ false → includes row (rows_of c v) ≡ false → includes row (rows_in c (take (i + 1) entries)) ≡ false
lacked_next c entries row i v at first lacks =
    ap (includes row) (rows_more c entries i v at) ∙ (includes_both row (rows_in c (take i entries)) (rows_of c v) ∙ (ap (λ t. t || includes row (rows_of c v)) first ∙ lacks))

-- the row isn't among those of the first entries, which have so many rows
pub record Passed (c : Config) (entries : List ℕ) (row i before : ℕ) : Type 0 where
  pub count : before ≡ length (rows_in c (take i entries))
  pub lacks : includes row (rows_in c (take i entries)) ≡ false

pub none_passed : (c : Config) (entries : List ℕ) (row : ℕ) → Passed c entries row 0 0
none_passed c entries row = record { count = refl; lacks = refl }

pub passed_next : (c : Config) (entries : List ℕ) (row i v before after : ℕ) → slice_get entries i ≡ Some v → Passed c entries row i before → includes row (rows_of c v) ≡ false → after ≡ before + group_size c v → Passed c entries row (i + 1) after
passed_next c entries row i v before after at passed lacks is =
    let more = rows_more c entries i v at in
    record {
      count = (let long = ap length more in let both = length-append (rows_in c (take i entries)) (rows_of c v) in let one = group_long c v in let was = passed.count in omega (arith, long, both, one, was, is));
      lacks = lacked_next c entries row i v at passed.lacks lacks;
    }

-- what was passed and the next entry are not more than all
pub passed_few : (c : Config) (entries : List ℕ) (row i v before : ℕ) → slice_get entries i ≡ Some v → Passed c entries row i before → before + group_size c v ≤ length (rows_in c entries)
passed_few c entries row i v before at passed =
    let rest : List ℕ = rows_in c (drop (i + 1) entries) in
    let whole = ap length (rows_split c entries i v at) in
    let both = length-append (rows_in c (take i entries)) (rows_of c v ++ rest) in
    let tail = length-append (rows_of c v) rest in
    let one = group_long c v in
    let was = passed.count in
    omega (arith, whole, both, tail, one, was)

-- the row is one of the next entry
pub passed_here : (c : Config) (entries : List ℕ) (row i v before at : ℕ) → slice_get entries i ≡ Some v → Passed c entries row i before → IsFirstAt row (rows_of c v) at → IsFirstAt row (rows_in c entries) (before + at)
passed_here c entries row i v before at there passed first =
    subst (λ l. IsFirstAt row l (before + at)) (sym (rows_split c entries i v there))
    (subst (λ n. IsFirstAt row (rows_in c (take i entries) ++ (rows_of c v ++ rows_in c (drop (i + 1) entries))) (n + at)) (sym passed.count)
    (first_after row (rows_in c (take i entries)) (rows_of c v) (rows_in c (drop (i + 1) entries)) at passed.lacks first))

-- and its place is one of theirs
pub passed_low : (c : Config) (entries : List ℕ) (row i v before at : ℕ) → slice_get entries i ≡ Some v → Passed c entries row i before → IsFirstAt row (rows_of c v) at → before + at < length (rows_in c entries)
passed_low c entries row i v before at there passed first =
    let fits = passed_few c entries row i v before there passed in
    let long = group_long c v in
    let whole = ap length first.whole in
    let both = length-append first.before (row ∷ first.after) in
    let count = first.count in
    omega (arith, fits, long, whole, both, count)

-- it is none of all entries
pub passed_all : (c : Config) (entries : List ℕ) (row i before : ℕ) → length entries ≤ i → Passed c entries row i before → includes row (rows_in c entries) ≡ false
passed_all c entries row i before all passed = ap (λ l. includes row (rows_in c l)) (sym (take_whole i entries all)) ∙ passed.lacks

-- what is told of the entries by the replayer's configuration
pub told_of : (c own : Config) (row : ℕ) (entries handed : List ℕ) (told : Option ℕ) → own ≡ c → handed ≡ entries → length (rows_in c entries) < 65536 → (length (rows_in own handed) < 65536 → TellsPlace row (rows_in own handed) told) → TellsPlace row (rows_in c entries) told
told_of c own row entries handed told same is few tells =
    let all : rows_in own handed ≡ rows_in c entries = ap (λ z. rows_in z handed) same ∙ ap (rows_in c) is in
    subst (λ l. TellsPlace row l told) all (tells (subst (λ l. length l < 65536) (sym all) few))
