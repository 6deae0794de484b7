-- The decimal digits of a number, two at a time.
use Rattle.std.proofs.Common.{◌≡◌, ℕ, ◌+◌, ◌/◌, ◌%◌, ◌^◌, ◌<◌, ◌≤◌, List, [], ◌∷◌, ◌++◌, length, ap, ◌∙◌, append_assoc, length-append, arith}
use Rattle.std.specs.Fmt.{decimal}
use Rattle.std.proofs.lemmas.Fmt.{decimal_digit, decimal_step}

-- both digits of a number that has two
abbrev pub pair_of : ℕ → List ℕ
pair_of n = (48 + n / 10) ∷ (48 + n % 10) ∷ []

pub decimal_pair : (n : ℕ) → 10 ≤ n → n < 100 → decimal n ≡ pair_of n
decimal_pair n large small =
    decimal_step n large (omega (arith, small)) ∙ ap (λ l. l ++ (48 + n % 10) ∷ []) (decimal_digit (n / 10) (omega (arith, small)))

-- the digits of a greater number are its last two behind those before them
pub decimal_pairs : (n : ℕ) → 100 ≤ n → n < 2 ^ 64 → decimal n ≡ decimal (n / 100) ++ pair_of (n % 100)
decimal_pairs n large small =
    let hundreds : n / 10 / 10 ≡ n / 100 = omega arith in
    let tens : n / 10 % 10 ≡ n % 100 / 10 = omega arith in
    let ones : n % 10 ≡ n % 100 % 10 = omega arith in
    decimal_step n (omega (arith, large)) small
    ∙ ap (λ l. l ++ (48 + n % 10) ∷ []) (decimal_step (n / 10) (omega (arith, large)) (omega (arith, small)))
    ∙ append_assoc (decimal (n / 10 / 10)) ((48 + n / 10 % 10) ∷ []) ((48 + n % 10) ∷ [])
    ∙ ap (λ k. decimal k ++ (48 + n / 10 % 10) ∷ (48 + n % 10) ∷ []) hundreds
    ∙ ap (λ k. decimal (n / 100) ++ (48 + k) ∷ (48 + n % 10) ∷ []) tens
    ∙ ap (λ k. decimal (n / 100) ++ (48 + n % 100 / 10) ∷ (48 + k) ∷ []) ones

pub length-decimal_pairs : (n : ℕ) → 100 ≤ n → n < 2 ^ 64 → length (decimal n) ≡ length (decimal (n / 100)) + 2
length-decimal_pairs n large small = ap length (decimal_pairs n large small) ∙ length-append (decimal (n / 100)) (pair_of (n % 100))
