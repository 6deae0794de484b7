-- Beginnings of lists of commands, and the words of their rows.
use Rattle.std.proofs.Common.{◌≡◌, ℕ, zero, suc, ◌+◌, ◌*◌, ◌<◌, ◌≤◌, List, [], ◌∷◌, ◌++◌, drop, length, take, refl, sym, ap, ◌∙◌, arith, append_assoc, length-append}
use Rattle.std.specs.Prelude.{slice_index}
use lib.ListN as lists
use lib.Seq.{get_or-append-add}
use Rattle.kv_store.specs.Commands.{Request}
use Rattle.mu_model.specs.Histories.{IsPrefixOf}
use Rattle.mu_rows.specs.Rows.{spelled}
use Rattle.snap_reads.specs.Published.{AllBegin, AreCommands, rows_of}
use Rattle.snap_reads.specs.Steps.{AllWithin, ShortBegin}

-- of two beginnings of one list the shorter begins the longer
pub shorter : (list xs ys : List Request) → IsPrefixOf xs list → IsPrefixOf ys list → length ys ≤ length xs → IsPrefixOf ys xs
shorter list xs [] p q short = (xs, refl)
shorter list [] (y ∷ ys) p q short = absurd (omega arith)
shorter list (x ∷ xs) (y ∷ ys) p q short =
    let same : x ∷ xs ++ p.0 ≡ y ∷ ys ++ q.0 = sym p.1 ∙ q.1 in
    let head : x ≡ y = cc in
    let tail : xs ++ p.0 ≡ ys ++ q.0 = cc in
    let rest = shorter (xs ++ p.0) xs ys (p.0, refl) (q.0, tail) (omega arith) in
    (rest.0, λ i. head i ∷ rest.1 i)

pub prefix_length : (xs list : List Request) → IsPrefixOf xs list → length xs ≤ length list
prefix_length xs list p = omega (arith, ap length p.1, length-append xs p.0)

-- what begins a list begins a longer one
pub begins_longer : (xs list more : List Request) → IsPrefixOf xs list → IsPrefixOf xs (list ++ more)
begins_longer xs list more p = (p.0 ++ more, ap (λ l. l ++ more) p.1 ∙ append_assoc xs p.0 more)

pub all_begin_longer : (lists : List (List Request)) (list more : List Request) → AllBegin lists list → AllBegin lists (list ++ more)
all_begin_longer [] list more begin = tt
all_begin_longer (xs ∷ lists) list more begin = (begins_longer xs list more begin.0, all_begin_longer lists list more begin.1)

pub all_begin_joined : (lists others : List (List Request)) (list : List Request) → AllBegin lists list → AllBegin others list → AllBegin (lists ++ others) list
all_begin_joined [] others list begin also = also
all_begin_joined (xs ∷ lists) others list begin also = (begin.0, all_begin_joined lists others list begin.1 also)

-- of beginnings of one list, those that are no longer than what was seen begin it
pub short_begin : (lists : List (List Request)) (list seen : List Request) → AllBegin lists list → IsPrefixOf seen list → ShortBegin lists seen
short_begin [] list seen begin p = tt
short_begin (xs ∷ lists) list seen begin p = ((λ short. shorter list seen xs p begin.0 short), short_begin lists list seen begin.1 p)

pub all_within : (lists : List (List Request)) (list : List Request) (count : ℕ) → AllBegin lists list → count ≡ length list → AllWithin lists count
all_within [] list count begin is = tt
all_within (xs ∷ lists) list count begin is = (omega (arith, is, prefix_length xs list begin.0), all_within lists list count begin.1 is)

-- so all of them begin it, once it is long enough
pub all_seen : (lists : List (List Request)) (seen : List Request) (count : ℕ) → AllWithin lists count → ShortBegin lists seen → count ≤ length seen → AllBegin lists seen
all_seen [] seen count within short enough = tt
all_seen (xs ∷ lists) seen count within short enough = (short.0 (omega (arith, within.0, enough)), all_seen lists seen count within.1 short.1 enough)

pub are_joined : (xs ys : List Request) → AreCommands xs → AreCommands ys → AreCommands (xs ++ ys)
are_joined [] ys are also = also
are_joined (x ∷ xs) ys are also = (are.0, are_joined xs ys are.1 also)

pub rows_joined : (xs ys : List Request) → rows_of (xs ++ ys) ≡ rows_of xs ++ rows_of ys
rows_joined [] ys = refl
rows_joined (x ∷ xs) ys = ap (λ words. spelled x 0 ++ words) (rows_joined xs ys) ∙ sym (append_assoc (spelled x 0) (rows_of xs) (rows_of ys))

pub rows_length : (xs : List Request) → length (rows_of xs) ≡ 12 * length xs
rows_length [] = refl
rows_length (x ∷ xs) = omega (arith, rows_length xs)

-- the row after those of what comes first
pub row_at : (xs ys : List Request) (y : Request) (k : ℕ) → k < 12 → slice_index (rows_of (xs ++ y ∷ ys)) (12 * length xs + k) ≡ slice_index (spelled y 0) k
row_at xs ys y k less =
    ap (λ words. slice_index words (12 * length xs + k)) (rows_joined xs (y ∷ ys))
    ∙ (ap (λ i. slice_index (rows_of xs ++ rows_of (y ∷ ys)) (i + k)) (sym (rows_length xs))
    ∙ (get_or-append-add (rows_of xs) (rows_of (y ∷ ys)) k 0 ∙ lists.get_or-append (spelled y 0) (rows_of ys) 0 k less))

pub are_drop : (n : ℕ) (xs : List Request) → AreCommands xs → AreCommands (drop n xs)
are_drop zero xs are = are
are_drop (suc n) [] are = are
are_drop (suc n) (x ∷ xs) are = are_drop n xs are.1

pub are_take : (n : ℕ) (xs : List Request) → AreCommands xs → AreCommands (take n xs)
are_take zero xs are = tt
are_take (suc n) [] are = tt
are_take (suc n) (x ∷ xs) are = (are.0, are_take n xs are.1)
