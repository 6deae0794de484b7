-- sets: sets of replicas as the bits of a number.
use Rattle.std.specs.Prelude.{Bool, false, suc, true, zero, ℕ, ◌%◌, ◌*◌, ◌+◌, ◌/◌, ◌==◌}

-- 1 if it is so, else 0
abbrev pub bit : Bool → ℕ
bit true = 1
bit false = 0

-- the numbers below 7 that pass, as the bits of a number
abbrev pub bits : (ℕ → Bool) → ℕ
bits test =
    bit (test 0) + 2 * bit (test 1) + 4 * bit (test 2) + 8 * bit (test 3) + 16 * bit (test 4)
    + 32 * bit (test 5) + 64 * bit (test 6)

-- bit q of a number is set
abbrev pub is_bit : ℕ → ℕ → Bool
is_bit zero set = set % 2 == 1
is_bit (suc q) set = is_bit q (set / 2)
