-- The decimal digits of a number spell it.
use Rattle.std.proofs.Common.{◌≡◌, ℕ, zero, suc, ◌+◌, ◌-◌, ◌/◌, ◌%◌, ◌*◌, ◌^◌, ◌<◌, ◌≤◌, ◌&&◌, nat_le, nat_lt, not, Bool, true, false, cond, List, [], ◌∷◌, ◌++◌, length, get_or, None, Some, refl, sym, ap, ◌∙◌, arith}
use Rattle.std.specs.Fmt.{decimal}
use Rattle.std.specs.List.{list_all}
use Rattle.std.specs.Str.{bytes_eq}
use Rattle.std.proofs.lemmas.Bool.Decides.{nat_tests}
use Rattle.std.proofs.lemmas.Fmt.{decimal_by_steps, decimal_digit, decimal_nonempty, first_decimal, length-decimal-le}
use Rattle.std.proofs.lemmas.List.Folds.{list_all-append}
use Rattle.std.proofs.lemmas.Slice.Eq.{bytes_eq-Decides}
use Rattle.mu_text.specs.Numbers.{below, has_leading_zero, is_decimal, is_digit, number_of, of_8, of_16, of_32, of_64, value_of, wide_number_of, within}
use Rattle.mu_text.proofs.Digits.{value_of-push}

-- all of it are digits, and they are worth the number
abbrev Tells : ℕ → List ℕ → Type 0
Tells n digits = (list_all is_digit digits ≡ true) × (value_of digits ≡ n)

is_digit-of : (digit : ℕ) → digit < 10 → is_digit (48 + digit) ≡ true
is_digit-of digit below = grind (arith, nat_tests)

one_digit : (n : ℕ) → n < 10 → Tells n ((48 + n) ∷ [])
one_digit n below = (ap (λ b. b && true) (is_digit-of n below), omega arith)

one_more : (n : ℕ) (digits : List ℕ) → 10 ≤ n → Tells (n / 10) digits → Tells n (digits ++ (48 + n % 10) ∷ [])
one_more n digits large front = (
  list_all-append is_digit digits ((48 + n % 10) ∷ []) ∙ ap (λ b. b && (is_digit (48 + n % 10) && true)) front.0 ∙ ap (λ b. b && true) (is_digit-of (n % 10) (omega arith)),
  value_of-push digits (48 + n % 10) ∙ ap (λ v. v * 10 + (48 + n % 10 - 48)) front.1 ∙ omega arith,
)

pub decimal-tells : (n : ℕ) → n < 2 ^ 64 → (list_all is_digit (decimal n) ≡ true) × (value_of (decimal n) ≡ n)
decimal-tells n fits = decimal_by_steps Tells one_digit one_more n fits

no_zero : (digits : List ℕ) → 48 < get_or digits 0 0 → has_leading_zero digits ≡ false
no_zero [] large = refl
no_zero (digit ∷ []) large = refl
no_zero (digit ∷ next ∷ digits) large = grind (arith, nat_tests)

no_leading_zero : (n : ℕ) → n < 2 ^ 64 → has_leading_zero (decimal n) ≡ false
no_leading_zero zero fits = ap has_leading_zero (decimal_digit 0 (omega arith))
no_leading_zero (suc n) fits = no_zero (decimal (suc n)) (first_decimal (suc n) (omega arith) fits)

-- the digits of a number are a decimal number of at most as many digits
pub is_decimal-decimal : (most n : ℕ) → 0 < most → n < 10 ^ most → n < 2 ^ 64 → is_decimal most (decimal n) ≡ true
is_decimal-decimal most n some few fits =
    let short : length (decimal n) ≤ most = length-decimal-le most n some few fits in
    let long : 0 < length (decimal n) = decimal_nonempty n fits in
    let low : nat_le 1 (length (decimal n)) ≡ true = grind (arith, nat_tests) in
    let high : nat_le (length (decimal n)) most ≡ true = grind (arith, nat_tests) in
    ap (λ b. (b && nat_le (length (decimal n)) most) && (list_all is_digit (decimal n) && not (has_leading_zero (decimal n)))) low
    ∙ ap (λ b. b && (list_all is_digit (decimal n) && not (has_leading_zero (decimal n)))) high
    ∙ ap (λ b. b && not (has_leading_zero (decimal n))) (decimal-tells n fits).0
    ∙ ap not (no_leading_zero n fits)

-- the digits of a number of a job spell it
pub number_of-decimal : (n : ℕ) → n < 10000000 → number_of (decimal n) ≡ Some n
number_of-decimal n few =
    ap (λ b. cond b (Some (value_of (decimal n))) None) (is_decimal-decimal 7 n (omega arith) few (omega arith))
    ∙ ap Some (decimal-tells n (omega arith)).1

pub wide_number_of-decimal : (n : ℕ) → n < 2 ^ 64 → wide_number_of (decimal n) ≡ Some n
wide_number_of-decimal n fits =
    ap (λ b. cond b (Some (value_of (decimal n))) None) (is_decimal-decimal 20 n (omega arith) (omega arith) fits)
    ∙ ap Some (decimal-tells n fits).1

below-is : (limit n : ℕ) → n < limit → below limit (Some n) ≡ Some n
below-is limit n fits = let test : nat_lt n limit ≡ true = grind (arith, nat_tests) in ap (λ b. cond b (Some n) None) test

-- a number below a limit is read back below it
pub below-decimal : (limit n : ℕ) → n < limit → n < 10000000 → below limit (number_of (decimal n)) ≡ Some n
below-decimal limit n fits few = ap (below limit) (number_of-decimal n few) ∙ below-is limit n fits

pub wide_below-decimal : (limit n : ℕ) → n < limit → n < 2 ^ 64 → below limit (wide_number_of (decimal n)) ≡ Some n
wide_below-decimal limit n fits few = ap (below limit) (wide_number_of-decimal n few) ∙ below-is limit n fits

within-is : (low high n : ℕ) → low ≤ n → n ≤ high → within low high (Some n) ≡ Some n
within-is low high n least most =
    let first : nat_le low n ≡ true = grind (arith, nat_tests) in
    let second : nat_le n high ≡ true = grind (arith, nat_tests) in
    ap (λ b. cond (b && nat_le n high) (Some n) None) first ∙ ap (λ b. cond b (Some n) None) second

-- a number from a least to a greatest is read back between them
pub within-decimal : (low high n : ℕ) → low ≤ n → n ≤ high → n < 10000000 → within low high (number_of (decimal n)) ≡ Some n
within-decimal low high n least most few = ap (within low high) (number_of-decimal n few) ∙ within-is low high n least most

-- a number of this many bits is read back
pub of_8-decimal : (n : ℕ) → n < 2 ^ 8 → of_8 (decimal n) ≡ Some n
of_8-decimal n fits = wide_below-decimal (2 ^ 8) n fits (omega arith)

pub of_16-decimal : (n : ℕ) → n < 2 ^ 16 → of_16 (decimal n) ≡ Some n
of_16-decimal n fits = wide_below-decimal (2 ^ 16) n fits (omega arith)

pub of_32-decimal : (n : ℕ) → n < 2 ^ 32 → of_32 (decimal n) ≡ Some n
of_32-decimal n fits = wide_below-decimal (2 ^ 32) n fits (omega arith)

pub of_64-decimal : (n : ℕ) → n < 2 ^ 64 → of_64 (decimal n) ≡ Some n
of_64-decimal n fits = wide_below-decimal (2 ^ 64) n fits fits

first_digit : (digits : List ℕ) → 0 < length digits → list_all is_digit digits ≡ true → is_digit (get_or digits 0 0) ≡ true
first_digit [] some all = absurd (omega arith)
first_digit (digit ∷ digits) some all = both (is_digit digit) (list_all is_digit digits) all
  where
    both : (a b : Bool) → (a && b) ≡ true → a ≡ true
    both true b e = refl
    both false b e = cc

-- a word that begins with no digit is not this number
pub decimal-is_not : (n : ℕ) (word : List ℕ) → n < 2 ^ 64 → is_digit (get_or word 0 0) ≡ false → bytes_eq (decimal n) word ≡ false
decimal-is_not n word fits other = elim (bytes_eq (decimal n) word) as (λ b. bytes_eq (decimal n) word ≡ b → b ≡ false) [
  | true ↦ λ same.
      let is : decimal n ≡ word = (bytes_eq-Decides (decimal n) word).0 same in
      let digit = first_digit (decimal n) (decimal_nonempty n fits) (decimal-tells n fits).0 in
      let clash : true ≡ false = sym digit ∙ ap (λ digits. is_digit (get_or digits 0 0)) is ∙ other in cc
  | false ↦ λ other. refl
] refl
