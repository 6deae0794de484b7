-- The value of digits, one more at a time.
use Rattle.std.proofs.Common.{◌≡◌, ℕ, ◌+◌, ◌-◌, ◌*◌, ◌^◌, ◌<◌, ◌≤◌, Bool, true, false, List, [], ◌∷◌, ◌++◌, length, take, get_or, cond, Some, None, refl, ap, ◌∙◌, arith, lit≤}
use Rattle.std.proofs.Math.Nat.{pow-le-pow_right}
use Rattle.std.proofs.Math.Seq.{take-suc}
use Rattle.std.proofs.lemmas.Grind.{common_steps, pow_more}
use Rattle.mu_text.specs.Numbers.{is_digit, value_of}
use Rattle.mu_text.specs.declared.TheConstants.{ZERO}

-- one digit more makes the value ten times as large, and adds what the digit is worth
pub value_of-push : (digits : List ℕ) (digit : ℕ) → value_of (digits ++ digit ∷ []) ≡ value_of digits * 10 + (digit - ZERO)
value_of-push [] digit = omega arith
value_of-push (first ∷ digits) digit =
    let longer : length (digits ++ digit ∷ []) ≡ length digits + 1 = grind (arith, common_steps) in
    let power : 10 ^ length (digits ++ digit ∷ []) ≡ 10 ^ length digits * 10 = ap (λ n. 10 ^ n) longer ∙ pow_more 10 (length digits) in
    let rest = value_of-push digits digit in
    let front : (first - ZERO) * 10 ^ length (digits ++ digit ∷ []) ≡ (first - ZERO) * 10 ^ length digits * 10 = ap (λ n. (first - ZERO) * n) power ∙ omega arith in
    omega (arith, rest, front)

-- the same of the digits up to the one at `i`
pub value_of-take : (word : List ℕ) (i : ℕ) → i < length word → value_of (take (i + 1) word) ≡ value_of (take i word) * 10 + (get_or word i 0 - ZERO)
value_of-take word i below = ap value_of (grind (arith, common_steps, take-suc word i 0 below)) ∙ value_of-push (take i word) (get_or word i 0)

-- a number of at most eighteen digits is below ten to the eighteenth
pub small : (i value : ℕ) → value + 1 ≤ 10 ^ i → i ≤ 18 → value < 1000000000000000000
small i value below few = omega (arith, pow-le-pow_right {n = 10} (lit≤ tt) few)

-- a number of at most this many digits is below ten to their count
pub below_power : (i most value : ℕ) → value + 1 ≤ 10 ^ i → i ≤ most → value < 10 ^ most
below_power i most value below few = omega (arith, pow-le-pow_right {n = 10} (lit≤ tt) few)

-- if a test leaves a value, the test passes and the value is the one that it guards
pub chosen : (b : Bool) (n value : ℕ) → Some value ≡ cond b (Some n) None → (b ≡ true) × (value ≡ n)
chosen true n value e = (refl, cc)
chosen false n value e = cc

-- a byte that is worth something is a digit
pub told : (byte value : ℕ) → Some value ≡ cond (is_digit byte) (Some (byte - ZERO)) None → (is_digit byte ≡ true) × (value ≡ byte - ZERO)
told byte value e = chosen (is_digit byte) (byte - ZERO) value e
