-- The number of 64 bits of a word of at most twenty digits, from the first nineteen and the last.
use Rattle.std.proofs.Common.{◌≡◌, ℕ, ◌+◌, ◌-◌, ◌*◌, ◌^◌, ◌&&◌, ◌<◌, ◌≤◌, nat_le, nat_lt, not, Bool, true, false, cond, List, [], ◌∷◌, length, take, get_or, None, Some, refl, sym, ap, ◌∙◌, arith}
use Rattle.std.proofs.lemmas.Bool.Decides.{nat_tests}
use Rattle.std.proofs.lemmas.Grind.{common_steps}
use Rattle.std.proofs.lemmas.List.Folds.{list_all_more}
use Rattle.std.specs.List.{list_all}
use Rattle.std.specs.declared.option.Option.{Option}
use Rattle.mu_text.specs.Numbers.{below, has_leading_zero, is_decimal, is_digit, of_64, value_of}
use Rattle.mu_text.specs.declared.TheConstants.{ZERO}
use Rattle.mu_text.proofs.Digits.{chosen, value_of-take}

whole : (word : List ℕ) → length word ≡ 20 → take (19 + 1) word ≡ word
whole word long = grind (arith, common_steps)

-- the last one of twenty digits
abbrev last : List ℕ → ℕ
last word = get_or word 19 0

-- the value of the first nineteen
abbrev front : List ℕ → Option ℕ
front word = cond (is_decimal 19 (take 19 word)) (Some (value_of (take 19 word))) None

-- the value of the last
abbrev worth : List ℕ → Option ℕ
worth word = cond (is_digit (last word)) (Some (last word - ZERO)) None

value-twenty : (word : List ℕ) → length word ≡ 20 → value_of word ≡ value_of (take 19 word) * 10 + (last word - ZERO)
value-twenty word long = ap value_of (sym (whole word long)) ∙ value_of-take word 19 (omega (arith, long))

digits-twenty : (word : List ℕ) → length word ≡ 20 → list_all is_digit word ≡ (list_all is_digit (take 19 word) && is_digit (last word))
digits-twenty word long = ap (list_all is_digit) (sym (whole word long)) ∙ list_all_more is_digit word 19 0 (omega (arith, long))

zero-twenty : (word : List ℕ) → has_leading_zero word ≡ has_leading_zero (take 19 word)
zero-twenty [] = refl
zero-twenty (a ∷ []) = refl
zero-twenty (a ∷ b ∷ rest) = refl

few : (word : List ℕ) → length word ≡ 20 → length (take 19 word) ≡ 19
few word long = grind (arith, common_steps)

moved : (a b c : Bool) → ((a && b) && c) ≡ ((a && c) && b)
moved true true true = refl
moved true true false = refl
moved true false true = refl
moved true false false = refl
moved false b c = refl

is_decimal-twenty : (word : List ℕ) → length word ≡ 20 → is_decimal 20 word ≡ (is_decimal 19 (take 19 word) && is_digit (last word))
is_decimal-twenty word long =
    let digits = list_all is_digit (take 19 word) in
    let zero = not (has_leading_zero (take 19 word)) in
    ap (λ n. (nat_le 1 n && nat_le n 20) && (list_all is_digit word && not (has_leading_zero word))) long
    ∙ ap (λ b. b && not (has_leading_zero word)) (digits-twenty word long)
    ∙ ap (λ b. (digits && is_digit (last word)) && not b) (zero-twenty word)
    ∙ moved digits (is_digit (last word)) zero
    ∙ sym (ap (λ n. ((nat_le 1 n && nat_le n 19) && (digits && zero)) && is_digit (last word)) (few word long))

of_64-twenty : (word : List ℕ) → length word ≡ 20
    → of_64 word ≡ below (2 ^ 64) (cond (is_decimal 19 (take 19 word) && is_digit (last word)) (Some (value_of (take 19 word) * 10 + (last word - ZERO))) None)
of_64-twenty word long =
    ap (λ b. below (2 ^ 64) (cond b (Some (value_of word)) None)) (is_decimal-twenty word long)
    ∙ ap (λ n. below (2 ^ 64) (cond (is_decimal 19 (take 19 word) && is_digit (last word)) (Some n) None)) (value-twenty word long)

both-there : (word : List ℕ) (first digit : ℕ) → length word ≡ 20 → Some first ≡ front word → Some digit ≡ worth word → of_64 word ≡ below (2 ^ 64) (Some (first * 10 + digit))
both-there word first digit long is_first is_last =
    let a = chosen (is_decimal 19 (take 19 word)) (value_of (take 19 word)) first is_first in
    let b = chosen (is_digit (last word)) (last word - ZERO) digit is_last in
    of_64-twenty word long
    ∙ ap (λ t. below (2 ^ 64) (cond (t && is_digit (last word)) (Some (value_of (take 19 word) * 10 + (last word - ZERO))) None)) a.0
    ∙ ap (λ t. below (2 ^ 64) (cond t (Some (value_of (take 19 word) * 10 + (last word - ZERO))) None)) b.0
    ∙ ap (λ n. below (2 ^ 64) (Some (n * 10 + (last word - ZERO)))) (sym a.1)
    ∙ ap (λ n. below (2 ^ 64) (Some (first * 10 + n))) (sym b.1)

within_64 : (n : ℕ) → n < 2 ^ 64 → nat_lt n (2 ^ 64) ≡ true
within_64 n small = grind (arith, nat_tests)

beyond_64 : (n : ℕ) → 2 ^ 64 ≤ n → nat_lt n (2 ^ 64) ≡ false
beyond_64 n large = grind (arith, nat_tests)

-- the value of both parts is the number of the word, if it has 64 bits
pub both-fit : (word : List ℕ) (first digit value : ℕ) → length word ≡ 20 → Some first ≡ front word → Some digit ≡ worth word → value ≡ first * 10 + digit → value < 2 ^ 64 → Some value ≡ of_64 word
both-fit word first digit value long is_first is_last is small =
    sym (both-there word first digit long is_first is_last ∙ ap (λ n. below (2 ^ 64) (Some n)) (sym is) ∙ ap (λ t. cond t (Some value) None) (within_64 value small))

-- the word has no number if the value has more than 64 bits
pub both-large : (word : List ℕ) (first digit value : ℕ) → length word ≡ 20 → Some first ≡ front word → Some digit ≡ worth word → value ≡ first * 10 + digit → 2 ^ 64 ≤ value → None ≡ of_64 word
both-large word first digit value long is_first is_last is large =
    sym (both-there word first digit long is_first is_last ∙ ap (λ n. below (2 ^ 64) (Some n)) (sym is) ∙ ap (λ t. cond t (Some value) None) (beyond_64 value large))
