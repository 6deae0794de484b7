-- The lines and words that are left, from one to the next.
use Rattle.std.proofs.Common.{◌≡◌, ◌≤◌, ◌<◌, ◌++◌, ℕ, suc, ◌+◌, ◌==◌, arith, codes, drop, length-append, slice_index_or, List, [], ◌∷◌, Bor, None, Some, refl, sym, ap, ◌∙◌, length, map, nat_lt, not, if◌then◌else◌}
use Rattle.std.specs.List.{position, position_or_len}
use Rattle.std.proofs.lemmas.List.{at_drop_more}
use Rattle.mu_events.specs.Table.{passed}
use Rattle.mu_events.specs.declared.table.Field.{Field}
use Rattle.mu_mistakes.specs.Expected.{clients_in, names_words, one_client}
use Rattle.mu_mistakes.specs.Flaws.{empty_word}

-- the clients of one line more
pub clients_next : (lines more : List (List ℕ)) (line : List ℕ) (k m : ℕ) → lines ≡ line ∷ more → k ≡ suc m → clients_in k lines ≡ one_client line + clients_in m more
clients_next lines more line k m is one = rw is (rw one refl)

same_count : (words : List (Bor (List ℕ))) → length (map (λ (word : Bor (List ℕ)). word.now) words) ≡ length words
same_count [] = refl
same_count (word ∷ words) = ap suc (same_count words)

same_place : (words : List (Bor (List ℕ))) → position_or_len (λ (word : List ℕ). length word == 0) (map (λ (word : Bor (List ℕ)). word.now) words) ≡ position_or_len (λ (word : Bor (List ℕ)). length word.now == 0) words
same_place [] = refl
same_place (word ∷ words) = ap (λ k. if not (length word.now == 0) then 1 + k else 0) (same_place words)

-- the place is the same among words as they are passed
pub empty_word_said : (words : List (Bor (List ℕ))) → position (λ (word : Bor (List ℕ)). length word.now == 0) words ≡ empty_word (map (λ (word : Bor (List ℕ)). word.now) words)
empty_word_said words =
    ap (λ k. if nat_lt k (length words) then Some k else None) (sym (same_place words))
    ∙ ap (λ n. if nat_lt (position_or_len (λ (word : List ℕ). length word == 0) (map (λ (word : Bor (List ℕ)). word.now) words)) n
    then Some (position_or_len (λ (word : List ℕ). length word == 0) (map (λ (word : Bor (List ℕ)). word.now) words)) else None) (sym (same_count words))

abbrev pub Passed : Type 0
Passed = ℕ × Bor (List ℕ) × Bor (List Field) × Bor (List ℕ)

-- a name and what stands before it are no longer than all that will be there
pub names_left : (before : List ℕ) (given : List Passed) (i : ℕ) (none : Passed) (out old all : List ℕ) → i < length given → out ++ names_words before (map passed (drop i given)) ≡ old ++ all
    → length out + length before + length (slice_index_or given i none).1.now ≤ length old + length all
names_left before given i none out old all below same =
    let name = (slice_index_or given i none).1.now in
    let rest = names_words (codes ", ") (map passed (drop (i + 1) given)) in
    let next = at_drop_more (λ left. names_words before (map passed left)) given i none below in
    let long = ap length (ap (λ text. out ++ text) (sym next) ∙ same) in
    omega (arith, long, length-append out ((before ++ name) ++ rest), length-append (before ++ name) rest, length-append before name, length-append old all)
