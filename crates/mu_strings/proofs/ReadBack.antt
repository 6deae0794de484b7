-- A string is read back from its spelling.
use Rattle.std.proofs.Common.{◌≡◌, ℕ, ◌+◌, ◌-◌, ◌*◌, ◌/◌, ◌%◌, ◌<◌, ◌&&◌, ◌==◌, Bool, true, false, cond, not, nat_le, nat_lt, List, [], ◌∷◌, ◌++◌, refl, ap, ◌∙◌, arith}
use Rattle.std.specs.List.{AllByRecursion, flat_map}
use Rattle.std.proofs.lemmas.Bool.Decides.{nat_tests}
use Rattle.mu_strings.specs.Laws.{IsByte, IsReadBack}
use Rattle.mu_strings.specs.Spellings.{byte_spelled, digit, is_plain, number_of, string_of}

number-digit : (n : ℕ) → n < 16 → number_of (digit n) ≡ n
number-digit n small = go (nat_lt n 10) refl
  where
    go : (b : Bool) → nat_lt n 10 ≡ b → number_of (cond b (48 + n) (87 + n)) ≡ n
    go true is = let low : nat_lt (48 + n) 58 ≡ true = grind (arith, nat_tests, is) in ap (λ b. cond b (48 + n - 48) (48 + n - 87)) low ∙ omega arith
    go false is = let high : nat_lt (87 + n) 58 ≡ false = grind (arith, nat_tests, is) in ap (λ b. cond b (87 + n - 48) (87 + n - 87)) high ∙ omega arith

plain-other : (byte : ℕ) → is_plain byte ≡ true → (byte == 37) ≡ false
plain-other byte e = go (nat_le 33 byte && nat_le byte 126) (byte == 37) e
  where
    go : (a b : Bool) → (a && not b) ≡ true → b ≡ false
    go true true e = cc
    go true false e = refl
    go false b e = cc

-- a plain byte in front of a word
plain-front : (byte : ℕ) (word : List ℕ) → (byte == 37) ≡ false → string_of (byte ∷ word) ≡ byte ∷ string_of word
plain-front byte [] e = ap (λ b. cond b [] (byte ∷ [])) e
plain-front byte (high ∷ []) e = ap (λ b. cond b [] (byte ∷ string_of (high ∷ []))) e
plain-front byte (high ∷ low ∷ word) e = ap (λ b. cond b (((16 * number_of high + number_of low) % 256) ∷ string_of word) (byte ∷ string_of (high ∷ low ∷ word))) e

one_more : (byte : ℕ) (word : List ℕ) → byte < 256 → string_of (byte_spelled byte ++ word) ≡ byte ∷ string_of word
one_more byte word small = go (is_plain byte) refl
  where
    go : (b : Bool) → is_plain byte ≡ b → string_of (cond b (byte ∷ []) (37 ∷ digit (byte / 16) ∷ digit (byte % 16) ∷ []) ++ word) ≡ byte ∷ string_of word
    go true is = plain-front byte word (plain-other byte is)
    go false is =
        let high = number-digit (byte / 16) (omega (arith, small)) in
        let low = number-digit (byte % 16) (omega arith) in
        let whole : (16 * number_of (digit (byte / 16)) + number_of (digit (byte % 16))) % 256 ≡ byte = omega (arith, high, low, small) in
        ap (λ b. b ∷ string_of word) whole

all_back : (string : List ℕ) → AllByRecursion IsByte string → string_of (flat_map byte_spelled string) ≡ string
all_back [] all = refl
all_back (byte ∷ string) all = one_more byte (flat_map byte_spelled string) all.0 ∙ ap (λ l. byte ∷ l) (all_back string all.1)

pub read_back : IsReadBack
read_back [] all = refl
read_back (byte ∷ string) all = all_back (byte ∷ string) all
