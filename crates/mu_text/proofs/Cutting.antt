-- The first line and the first word of bytes, by the place of the byte that ends it.
use Rattle.std.proofs.Common.{◌≡◌, ◌≢◌, ℕ, ◌+◌, ◌-◌, ◌<◌, ◌≤◌, ◌==◌, nat_lt, Bool, true, false, cond, List, [], ◌∷◌, ◌++◌, length, take, drop, get_or, None, Some, refl, sym, ap, ◌∙◌, arith}
use Rattle.std.proofs.lemmas.Grind.{common_steps}
use Rattle.std.proofs.lemmas.List.Elements.{All-head, All-tail}
use Rattle.std.proofs.lemmas.List.Sums.{split_at_first, fails_before_first, passes_at_first}
use Rattle.std.proofs.lemmas.List.Splits.{slice_split_first, slice_split_none, length-slice_split}
use Rattle.std.proofs.lemmas.Bool.Decides.{Decides-eqb}
use Rattle.std.specs.List.{All, position, position_or_len, before_first, after_first, onto_first}
use Rattle.mu_text.specs.Lines.{lines, words}
use Rattle.mu_text.specs.declared.TheConstants.{LINE_FEED, SPACE}

-- the byte ends a line
abbrev ends : ℕ → Bool
ends byte = byte == LINE_FEED

-- the byte parts two words
abbrev parts : ℕ → Bool
parts byte = byte == SPACE

lines-cons : (byte : ℕ) (bytes : List ℕ) → ends byte ≡ false → lines (byte ∷ bytes) ≡ onto_first byte (lines bytes)
lines-cons byte bytes e = ap (λ b. cond b ([] ∷ lines bytes) (onto_first byte (lines bytes))) e

pub lines-at : (line rest : List ℕ) → All (λ byte. ends byte ≡ false) line → lines (line ++ LINE_FEED ∷ rest) ≡ line ∷ lines rest
lines-at [] rest none = refl
lines-at (byte ∷ line) rest none = lines-cons byte (line ++ LINE_FEED ∷ rest) (All-head (λ b. ends b ≡ false) byte line none) ∙ ap (onto_first byte) (lines-at line rest (All-tail (λ b. ends b ≡ false) byte line none))

pub lines-none : (byte : ℕ) (line : List ℕ) → All (λ b. ends b ≡ false) (byte ∷ line) → lines (byte ∷ line) ≡ (byte ∷ line) ∷ []
lines-none byte [] none = lines-cons byte [] (All-head (λ b. ends b ≡ false) byte [] none)
lines-none byte (next ∷ line) none = lines-cons byte (next ∷ line) (All-head (λ b. ends b ≡ false) byte (next ∷ line) none) ∙ ap (onto_first byte) (lines-none next line (All-tail (λ b. ends b ≡ false) byte (next ∷ line) none))

found : (b : Bool) (n end : ℕ) → cond b (Some n) None ≡ Some end → (b ≡ true) × (n ≡ end)
found true n end e = (refl, cc)
found false n end e = cc

missing : (b : Bool) (n : ℕ) → cond b (Some n) None ≡ None → b ≡ false
missing true n e = cc
missing false n e = refl

-- if a byte passes, its place is that of the first one, and not past the end
place : (p : ℕ → Bool) (bytes : List ℕ) (end : ℕ) → position p bytes ≡ Some end → (position_or_len p bytes ≡ end) × (end < length bytes)
place p bytes end e = let f = found (nat_lt (position_or_len p bytes) (length bytes)) (position_or_len p bytes) end e in grind (arith, common_steps, f)

-- if no element is found that passes, each fails
pub none_passes : {X : Type 0} (p : X → Bool) (xs : List X) → position p xs ≡ None → All (λ x. p x ≡ false) xs
none_passes p xs e k d below =
    let m : nat_lt (position_or_len p xs) (length xs) ≡ false = missing _ (position_or_len p xs) e in
    let l : length xs ≤ position_or_len p xs = grind (arith, common_steps, m) in
    fails_before_first p xs k d (omega arith)

-- the elements from a place on are as many as are left there
pub all_after : {X : Type 0} (xs : List X) (n : ℕ) → take (length xs - n) (drop n xs) ≡ drop n xs
all_after xs n = grind (arith, common_steps)

-- the first line ends at the first line feed
pub lines-first : (bytes : List ℕ) (end : ℕ) → position (λ byte. byte == LINE_FEED) bytes ≡ Some end → lines bytes ≡ take end bytes ∷ lines (take (length bytes - (end + 1)) (drop (end + 1) bytes))
lines-first bytes end e =
    let at = place ends bytes end e in
    let l : position_or_len ends bytes < length bytes = omega (arith, at.0, at.1) in
    let front : All (λ x. ends x ≡ false) (before_first ends bytes) = λ k d m. let k' = fails_before_first ends bytes k d (grind (arith, common_steps)) in grind (arith, common_steps) in
    let feed : get_or bytes (position_or_len ends bytes) 0 ≡ LINE_FEED = (Decides-eqb _ LINE_FEED).0 (passes_at_first ends bytes 0 l) in
    let whole : lines bytes ≡ before_first ends bytes ∷ lines (after_first ends bytes) =
    ap lines (split_at_first ends bytes 0 l ∙ ap (λ b. before_first ends bytes ++ b ∷ after_first ends bytes) feed) ∙ lines-at (before_first ends bytes) (after_first ends bytes) front in
    whole ∙ ap (λ n. take n bytes ∷ lines (drop (n + 1) bytes)) at.0 ∙ ap (λ rest. take end bytes ∷ lines rest) (sym (all_after bytes (end + 1)))

nothing_after : (bytes : List ℕ) → take (length bytes - length bytes) (drop (length bytes) bytes) ≡ []
nothing_after bytes = grind (arith, common_steps)

-- the last line may lack its line feed
pub lines-last : (bytes : List ℕ) → position (λ byte. byte == LINE_FEED) bytes ≡ None → 0 < length bytes → lines bytes ≡ bytes ∷ lines (take (length bytes - length bytes) (drop (length bytes) bytes))
lines-last [] e l = absurd (omega arith)
lines-last (byte ∷ bytes) e l = lines-none byte bytes (none_passes ends (byte ∷ bytes) e) ∙ ap (λ rest. (byte ∷ bytes) ∷ lines rest) (sym (nothing_after (byte ∷ bytes)))

-- the first word ends at the first space
pub words-first : (line : List ℕ) (end : ℕ) → position (λ byte. byte == SPACE) line ≡ Some end → words line ≡ take end line ∷ words (take (length line - (end + 1)) (drop (end + 1) line))
words-first line end e =
    let at = place parts line end e in
    slice_split_first parts line 0 (omega (arith, at.0, at.1)) ∙ ap (λ n. take n line ∷ words (drop (n + 1) line)) at.0 ∙ ap (λ rest. take end line ∷ words rest) (sym (all_after line (end + 1)))

-- a line without a space is one word
pub words-none : (line : List ℕ) → position (λ byte. byte == SPACE) line ≡ None → words line ≡ line ∷ []
words-none line e = slice_split_none parts line (none_passes parts line e)

-- each line has a word
pub words-some : (line : List ℕ) → 0 < length (words line)
words-some line = omega (arith, length-slice_split parts line)

-- a line that goes on after its second word has not two words
pub words-more : (line first second rest more : List ℕ) → words line ≡ first ∷ words rest → words rest ≡ second ∷ words more → length (words line) ≢ 2
words-more line first second rest more e f two = omega (arith, words-some more, ap length e, ap length f, two)
