-- Which commands the entries stand for, with more rows at the end.
use Rattle.std.proofs.Common.{◌≡◌, ◌∙◌, ◌%◌, ◌+◌, ◌<◌, ◌≤◌, ◌++◌, ◌∷◌, Bool, true, false, List, [], ap, arith, drop, length, refl, subst, suc, sym, take, zero, ℕ}
use Rattle.std.specs.Prelude.{if◌then◌else◌}
use Rattle.std.specs.List.{slice_get}
use Rattle.std.proofs.lemmas.List.{length-take}
use Rattle.std.proofs.lemmas.Option.{slice_get_within}
use Rattle.kv_store.specs.Commands.{Request}
use Rattle.mu_model.specs.declared.config.Config.{Config}
use Rattle.mu_model.specs.declared.config.Row.{Row}
use Rattle.mu_model.specs.Contents.{IsConfig, StandsForEntry, is_batch, rest_of, row_count, word_of}
use Rattle.mu_model.specs.Growing.{with_more}
use Rattle.mu_model.proofs.Lists.{get_front, item_below}
use Rattle.mu_agree.proofs.Growing.{entry_kept, more_rows, rest_kept}
use Rattle.mu_agree.proofs.Sessions.{batch_within, row_within}
use Rattle.mu_knowledge.specs.RowWords.{config_words}
use Rattle.mu_follow.specs.Completion.{AreEntries}
use Rattle.mu_follow.specs.Groups.{AreSpelled, Spells, group_of, groups_of}

-- some within the first of a list are those of the list
pub within_first : {A : Type 0} (n m k : ℕ) (xs : List A) → m + n ≤ k → take n (drop m (take k xs)) ≡ take n (drop m xs)
within_first zero zero k xs low = refl
within_first (suc n) zero zero xs low = absurd (omega (arith, low))
within_first (suc n) zero (suc k) [] low = refl
within_first (suc n) zero (suc k) (x ∷ xs) low = ap (λ l. x ∷ l) (within_first n zero k xs (omega (arith, low)))
within_first n (suc m) zero xs low = absurd (omega (arith, low))
within_first n (suc m) (suc k) [] low = refl
within_first n (suc m) (suc k) (x ∷ xs) low = within_first n m k xs (omega (arith, low))

pub get_first : {A : Type 0} (n i : ℕ) (xs : List A) → i < n → slice_get (take n xs) i ≡ slice_get xs i
get_first zero i xs low = absurd (omega (arith, low))
get_first (suc n) i [] low = refl
get_first (suc n) zero (x ∷ xs) low = refl
get_first (suc n) (suc i) (x ∷ xs) low = get_first n i xs (omega (arith, low))

-- the words of a row that was there
words_kept : (c : Config) (more : List Row) (j : ℕ) → j < row_count c → config_words (with_more c more) j ≡ config_words c j
words_kept c more j low =
    let x = item_below c.rows j low in
    ap (λ o. word_of o 0 ∷ word_of o 1 ∷ word_of o 2 ∷ word_of o 3 ∷ word_of o 4 ∷ word_of o 5 ∷ word_of o 6 ∷ word_of o 7 ∷ word_of o 8 ∷ word_of o 9 ∷ word_of o 10 ∷ word_of o 11 ∷ []) (get_front c.rows more j x.0 x.1 ∙ sym x.1)

-- the rows that were there spell the first of the commands
pub spelled_before : (c : Config) (more : List Row) (commands : List Request) → AreSpelled (with_more c more) commands → AreSpelled c (take (row_count c) commands)
spelled_before c more commands are = record {
  count = long;
  each = λ j command at.
      let low : j < row_count c = (let within = slice_get_within (take (row_count c) commands) j command at in omega (arith, within, long)) in
      subst (λ words. Spells words command) (words_kept c more j low) (are.each j command (sym (get_first (row_count c) j commands low) ∙ at));
}
  where
    long : length (take (row_count c) commands) ≡ row_count c
    long = let cut = length-take (row_count c) commands in let all = are.count in let grows = more_rows c more in omega (arith, cut, all, grows)

-- an entry stands for the same commands
pub group_kept : (c : Config) (more : List Row) (commands : List Request) (v : ℕ) → IsConfig c → IsConfig (with_more c more) → StandsForEntry c v → group_of (with_more c more) commands v ≡ group_of c (take (row_count c) commands) v
group_kept c more commands v good grown stands = ap (λ t. if t then take (rest_of (with_more c more) (v % 4096) + 1) (drop (v % 4096) commands) else []) (entry_kept c more v good grown stands) ∙ by_test (is_batch c v) refl
  where
    by_test : (t : Bool) → is_batch c v ≡ t
        → (if t then take (rest_of (with_more c more) (v % 4096) + 1) (drop (v % 4096) commands) else []) ≡ (if t then take (rest_of c (v % 4096) + 1) (drop (v % 4096) (take (row_count c) commands)) else [])
    by_test true batch =
        let low = row_within c v batch in
        let within = batch_within c good (rest_of c (v % 4096)) (v % 4096) low refl in
        ap (λ n. take (n + 1) (drop (v % 4096) commands)) (rest_kept c more (v % 4096) low)
        ∙ sym (within_first (rest_of c (v % 4096) + 1) (v % 4096) (row_count c) commands (omega (arith, within)))
    by_test false batch = refl

-- and so do several
pub groups_kept : (c : Config) (more : List Row) (commands : List Request) (values : List ℕ) → IsConfig c → IsConfig (with_more c more) → AreEntries c values → groups_of (with_more c more) commands values ≡ groups_of c (take (row_count c) commands) values
groups_kept c more commands [] good grown are = refl
groups_kept c more commands (v ∷ vs) good grown are =
    ap (λ l. l ++ groups_of (with_more c more) commands vs) (group_kept c more commands v good grown (are 0 v refl))
    ∙ ap (λ l. group_of c (take (row_count c) commands) v ++ l) (groups_kept c more commands vs good grown (λ i w at. are (suc i) w at))
