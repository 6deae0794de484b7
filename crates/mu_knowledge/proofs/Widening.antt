-- What is kept of the words of rows, with one row more.
use Rattle.std.proofs.Common.{◌≡◌, ◌∙◌, ℕ, zero, suc, ◌*◌, ◌+◌, ◌/◌, ◌%◌, ◌<◌, ◌≤◌, ◌==◌, ◌&&◌, inl, inr, Bool, false, List, [], ◌∷◌, ◌++◌, None, Some, ap, arith, length, refl, replicate, sym, take}
use Rattle.std.specs.Prelude.{if◌then◌else◌}
use Rattle.std.specs.List.{slice_get}
use Rattle.std.proofs.lemmas.Bool.{cases_lt, ne_eqb}
use Rattle.std.proofs.lemmas.List.{length-take}
use Rattle.std.proofs.lemmas.Option.{slice_get_within}
use Rattle.mu_model.specs.declared.config.Config.{Config}
use Rattle.mu_model.specs.declared.config.Row.{Row}
use Rattle.mu_model.specs.declared.event.Answer.{Answer}
use Rattle.mu_model.specs.declared.event.Event.{Event}
use Rattle.mu_model.specs.declared.event.Verb.{Verb}
use Rattle.mu_model.specs.Allowed.{Needs}
use Rattle.mu_model.specs.Contents.{IsConfig, row_count}
use Rattle.mu_model.specs.Histories.{newer_or, or_zero}
use Rattle.mu_model.specs.Knowledge.{has_word, wrote}
use Rattle.mu_model.specs.Parts.{IsPossible}
use Rattle.mu_model.proofs.Basics.{and_false, false_and}
use Rattle.mu_model.proofs.Lists.{get_front, get_replicate}
use Rattle.mu_model.specs.Growing.{with_more}
use Rattle.mu_agree.proofs.Growing.{no_row_written, no_word_there}
use Rattle.mu_agree.proofs.Possible.{parts_shorten_law}
use Rattle.mu_knowledge.specs.HeldRows.{HasWords, WroteWords, word_place}
use Rattle.mu_knowledge.specs.RowWords.{HoldWords, word_held, word_met, word_told}
use Rattle.mu_knowledge.proofs.Adding.{count_more}

-- what stands among the first places of a table stands there still
taken : {A : Type 0} (xs : List A) (m i : ℕ) (x : A) → i < m → slice_get xs i ≡ Some x → slice_get (take m xs) i ≡ Some x
taken xs zero i x low at = absurd (omega (arith, low))
taken [] (suc m) i x low at = at
taken (y ∷ ys) (suc m) zero x low at = at
taken (y ∷ ys) (suc m) (suc i) x low at = taken ys m i x (omega (arith, low)) at

kept_here : {A : Type 0} (xs ys : List A) (m i : ℕ) (x : A) → i < m → slice_get xs i ≡ Some x → slice_get (take m xs ++ ys) i ≡ Some x
kept_here xs ys m i x low at = get_front (take m xs) ys i x (taken xs m i x low at)

-- what is added stands behind them
behind : {A : Type 0} (xs ys : List A) (k : ℕ) → slice_get (xs ++ ys) (length xs + k) ≡ slice_get ys k
behind [] ys k = let same : 0 + k ≡ k = omega arith in ap (slice_get ys) same
behind (x ∷ xs) ys k = let same : length (x ∷ xs) + k ≡ suc (length xs + k) = omega arith in ap (slice_get (x ∷ (xs ++ ys))) same ∙ behind xs ys k

added_here : {A : Type 0} (xs : List A) (m n k i : ℕ) (z : A) → m ≤ length xs → k < n → i ≡ m + k → slice_get (take m xs ++ replicate n z) i ≡ Some z
added_here xs m n k i z long low is =
    let cut = length-take m xs in
    let at : i ≡ length (take m xs) + k = omega (arith, is, cut, long) in
    ap (slice_get (take m xs ++ replicate n z)) at ∙ (behind (take m xs) (replicate n z) k ∙ get_replicate n k z low)

-- a table of twelve places for each row
abbrev HasTwelve : {A : Type 0} → ℕ → (ℕ → ℕ → A) → List A → Type 0
HasTwelve n f xs = (j k : ℕ) → j < n → k < 12 → slice_get xs (j * 12 + k) ≡ Some (f j k)

twelve_long : {A : Type 0} (n : ℕ) (f : ℕ → ℕ → A) (xs : List A) → HasTwelve n f xs → n * 12 ≤ length xs
twelve_long zero f xs has = omega arith
twelve_long (suc n) f xs has = let within = slice_get_within xs (n * 12 + 11) (f n 11) (has n 11 (omega arith) (omega arith)) in omega (arith, within)

twelve_more : {A : Type 0} (n m : ℕ) (f : ℕ → ℕ → A) (z : A) (xs : List A) → m ≡ suc n → HasTwelve n f xs → ((k : ℕ) → k < 12 → f n k ≡ z) → HasTwelve m f (take (n * 12) xs ++ replicate 12 z)
twelve_more n m f z xs more has none j k low small = elim (cases_lt j n) [
  | inl old ↦ kept_here xs (replicate 12 z) (n * 12) (j * 12 + k) (f j k) (omega (arith, old, small)) (has j k old small)
  | inr new ↦ (let last : j ≡ n = omega (arith, low, more, new) in
      added_here xs (n * 12) 12 k (j * 12 + k) z (twelve_long n f xs has) small (omega (arith, last)) ∙ ap Some (sym (ap (λ i. f i k) last ∙ none k small)))
]

-- which own words are written
pub wrote_long : (c : Config) (r : ℕ) (mine : List Event) (xs : List Bool) → WroteWords c r mine xs → row_count c * 12 ≤ length xs
wrote_long c r mine xs held = twelve_long (row_count c) (λ j k. wrote r j k mine) xs held

pub wrote_more : (c : Config) (row : Row) (r : ℕ) (mine : List Event) (xs : List Bool) → IsPossible c r mine → WroteWords c r mine xs → WroteWords (with_more c (row ∷ [])) r mine (take (row_count c * 12) xs ++ replicate 12 false)
wrote_more c row r mine xs possible held = twelve_more (row_count c) (row_count (with_more c (row ∷ []))) (λ j k. wrote r j k mine) false xs (count_more c row) held (λ k small. no_row_written c r (row_count c) k mine possible (omega arith))

-- which words are there
pub there_long : (c : Config) (r : ℕ) (mine : List Event) (xs : List Bool) → IsConfig c → HasWords c r mine xs → row_count c * 84 ≤ length xs
there_long c r mine xs good held = go (row_count c) refl
  where
    go : (n : ℕ) → row_count c ≡ n → n * 84 ≤ length xs
    go zero is = omega arith
    go (suc n) is =
        let few = good.few in
        let row : (6 * 4096 + n) % 4096 ≡ n = omega (arith, few, is) in
        let host : (6 * 4096 + n) / 4096 ≡ 6 = omega (arith, few, is) in
        let within = slice_get_within xs (word_place (6 * 4096 + n) 11) (has_word r (6 * 4096 + n) 11 mine) (held (6 * 4096 + n) 11 (omega (arith, host)) (omega (arith, row, is)) (omega arith)) in
        omega (arith, within, row, host)

pub there_more : (c : Config) (row : Row) (r : ℕ) (mine : List Event) (xs : List Bool) → IsConfig c → IsPossible c r mine → HasWords c r mine xs → HasWords (with_more c (row ∷ [])) r mine (take (row_count c * 84) xs ++ replicate 84 false)
there_more c row r mine xs good possible held v k host low small = elim (cases_lt (v % 4096) (row_count c)) [
  | inl old ↦ kept_here xs (replicate 84 false) (row_count c * 84) (word_place v k) (has_word r v k mine) (omega (arith, old, host, small)) (held v k host old small)
  | inr new ↦ (let more = count_more c row in
      let last : v % 4096 ≡ row_count c = omega (arith, low, more, new) in
      added_here xs (row_count c * 84) 84 (v / 4096 * 12 + k) (word_place v k) false (there_long c r mine xs good held) (omega (arith, host, small)) (omega (arith, last)) ∙ ap Some (sym (no_word_there c r v k mine possible (omega (arith, last)))))
]

-- a possible part meets no word of a row that isn't there
unmet : (c : Config) (r j k : ℕ) (mine : List Event) → IsPossible c r mine → row_count c ≤ j → word_met r j k mine ≡ None
unmet c r j k [] possible above = refl
unmet c r j k (e ∷ mine) possible above =
    let before = parts_shorten_law c r mine e possible in
    ap (λ o. newer_or o (word_met r j k mine)) (told e.by e.verb e.answer before.allowed.may) ∙ unmet c r j k mine before.before above
  where
    told : (by : ℕ) (verb : Verb) (answer : Answer) → Needs c r mine verb → word_told r j k by verb answer ≡ None
    told by (Verb.WriteRow row word x) answer n = ap (λ t. if t then Some x else None) (and_false (by == r) ((row == j) && (word == k)) (false_and (row == j) (word == k) (ne_eqb row j (λ same. let low = n.0 in omega (arith, low, above, same)))))
    told by (Verb.ReadRow v word) (Answer.Number x) n = ap (λ t. if t then Some x else None) (and_false (by == r) ((v % 4096 == j) && (word == k)) (false_and (v % 4096 == j) (word == k) (ne_eqb (v % 4096) j (λ same. let low = n.1.0 in omega (arith, low, above, same)))))
    told by verb answer n = refl

pub words_long : (c : Config) (r : ℕ) (mine : List Event) (xs : List ℕ) → HoldWords (row_count c) (λ j k. word_held r j k mine) xs → row_count c * 12 ≤ length xs
words_long c r mine xs held = twelve_long (row_count c) (λ j k. word_held r j k mine) xs held

pub words_more : (c : Config) (row : Row) (r : ℕ) (mine : List Event) (xs : List ℕ) → IsPossible c r mine → HoldWords (row_count c) (λ j k. word_held r j k mine) xs
    → HoldWords (row_count (with_more c (row ∷ []))) (λ j k. word_held r j k mine) (take (row_count c * 12) xs ++ replicate 12 0)
words_more c row r mine xs possible held = twelve_more (row_count c) (row_count (with_more c (row ∷ []))) (λ j k. word_held r j k mine) 0 xs (count_more c row) held (λ k small. ap or_zero (unmet c r (row_count c) k mine possible (omega arith)))
