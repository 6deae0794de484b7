-- The spelling of a string: it is a word of visible bytes, and grows with the string.
use Rattle.std.proofs.Common.{◌≡◌, ℕ, zero, suc, ◌+◌, ◌/◌, ◌%◌, ◌<◌, ◌≤◌, ◌&&◌, ◌==◌, Bool, true, false, cond, not, nat_le, nat_lt, List, [], ◌∷◌, length, take, get_or, None, Some, refl, sym, subst, ap, ◌∙◌, length-append, arith}
use Rattle.std.specs.declared.option.Option.{Option}
use Rattle.std.specs.List.{All, flat_map}
use Rattle.std.specs.Option.{IfSome, IsSome}
use Rattle.std.proofs.lemmas.Bool.{true≢false}
use Rattle.std.proofs.lemmas.Bool.Decides.{nat_tests}
use Rattle.std.proofs.lemmas.List.Elements.{All-append, All-cons, All-nil}
use Rattle.kv_store.specs.Words.{IsVisible, IsWord}
use Rattle.mu_strings.specs.Spellings.{byte_spelled, digit, is_plain, short_spelled, spelled}

pub front-shorter : (string : List ℕ) (k : ℕ) → k < length string
    → length (flat_map byte_spelled (take k string)) + length (byte_spelled (get_or string k 0)) ≤ length (flat_map byte_spelled string)
front-shorter [] k below = absurd (omega arith)
front-shorter (byte ∷ string) zero below = omega (arith, length-append (byte_spelled byte) (flat_map byte_spelled string))
front-shorter (byte ∷ string) (suc k) below =
    omega (arith, front-shorter string k (omega (arith, below)), length-append (byte_spelled byte) (flat_map byte_spelled (take k string)), length-append (byte_spelled byte) (flat_map byte_spelled string))

pub spelled-some : (string : List ℕ) → 0 < length string → spelled string ≡ flat_map byte_spelled string
spelled-some [] some = absurd (omega arith)
spelled-some (byte ∷ string) some = refl

visible-digit : (n : ℕ) → n < 16 → IsVisible (digit n)
visible-digit n small = go (nat_lt n 10) refl
  where
    go : (b : Bool) → nat_lt n 10 ≡ b → IsVisible (cond b (48 + n) (87 + n))
    go true is = (omega arith, grind (arith, nat_tests, is))
    go false is = (omega arith, omega (arith, small))

visible-byte : (byte : ℕ) → byte < 256 → All IsVisible (byte_spelled byte)
visible-byte byte small = go (is_plain byte) refl
  where
    plain : (a b : Bool) → (a && b) ≡ true → a ≡ true
    plain true b e = refl
    plain false b e = cc

    go : (b : Bool) → is_plain byte ≡ b → All IsVisible (cond b (byte ∷ []) (37 ∷ digit (byte / 16) ∷ digit (byte % 16) ∷ []))
    go true is =
        let seen : (nat_le 33 byte && nat_le byte 126) ≡ true = plain (nat_le 33 byte && nat_le byte 126) (not (byte == 37)) is in
        All-cons IsVisible byte [] (grind (arith, nat_tests, seen), grind (arith, nat_tests, seen)) (All-nil IsVisible)
    go false is =
        All-cons IsVisible 37 (digit (byte / 16) ∷ digit (byte % 16) ∷ []) (omega arith, omega arith)
        (All-cons IsVisible (digit (byte / 16)) (digit (byte % 16) ∷ []) (visible-digit (byte / 16) (omega (arith, small)))
        (All-cons IsVisible (digit (byte % 16)) [] (visible-digit (byte % 16) (omega arith)) (All-nil IsVisible)))

visible-bytes : (string : List ℕ) → ((i : ℕ) → get_or string i 0 < 256) → All IsVisible (flat_map byte_spelled string)
visible-bytes [] bytes = All-nil IsVisible
visible-bytes (byte ∷ string) bytes = All-append IsVisible (byte_spelled byte) (flat_map byte_spelled string) (visible-byte byte (bytes 0)) (visible-bytes string (λ i. bytes (suc i)))

some-byte : (byte : ℕ) → 1 ≤ length (byte_spelled byte)
some-byte byte = go (is_plain byte)
  where
    go : (b : Bool) → 1 ≤ length (cond b (byte ∷ []) (37 ∷ digit (byte / 16) ∷ digit (byte % 16) ∷ []))
    go true = omega arith
    go false = omega arith

-- a short spelling is a word
pub word-spelled : (most : ℕ) (string : List ℕ) → ((i : ℕ) → get_or string i 0 < 256) → 1 ≤ most → length (spelled string) ≤ most → IsWord most (spelled string)
word-spelled most [] bytes some fits = record { some = omega arith; fits = fits; visible = All-cons IsVisible 37 [] (omega arith, omega arith) (All-nil IsVisible) }
word-spelled most (byte ∷ string) bytes some fits = record {
  some = omega (arith, some-byte byte, length-append (byte_spelled byte) (flat_map byte_spelled string));
  fits = fits;
  visible = visible-bytes (byte ∷ string) bytes;
}

-- what is made of a word, if it is one, is made of each short spelling
pub made-of : (most : ℕ) (string word : List ℕ) (r : Option (List ℕ)) → ((i : ℕ) → get_or string i 0 < 256) → 1 ≤ most → word ≡ spelled string
    → (IsSome r → IsWord most word) → (IsWord most word → IsSome r) → IfSome r (λ made. made ≡ word) → r ≡ short_spelled most string
made-of most string word None bytes some is only allowed same = long (nat_le (length (spelled string)) most) refl
  where
    long : (b : Bool) → nat_le (length (spelled string)) most ≡ b → None ≡ cond b (Some (spelled string)) None
    long false is_long = refl
    long true is_short =
        let fits : length (spelled string) ≤ most = grind (arith, nat_tests, is_short) in
        absurd (true≢false (sym (allowed (subst (IsWord most) (sym is) (word-spelled most string bytes some fits)))))
made-of most string word (Some made) bytes some is only allowed same =
    let word_is = only refl in
    let short : nat_le (length (spelled string)) most ≡ true = grind (arith, nat_tests, word_is.fits, ap length is) in
    ap Some (same ∙ is) ∙ ap (λ b. cond b (Some (spelled string)) None) (sym short)

-- a string whose spelling is too long has no short one
pub none-made : (most : ℕ) (string : List ℕ) → most < length (spelled string) → None ≡ short_spelled most string
none-made most string long =
    let no : nat_le (length (spelled string)) most ≡ false = grind (arith, nat_tests, long) in
    ap (λ b. cond b (Some (spelled string)) None) (sym no)
