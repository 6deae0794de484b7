-- rose: a count of faults rose in a call.
--
-- Counts of faults are numbers of 64 bits that stop at the last one.
use Rattle.std.specs.Prelude.{ℕ, ◌+◌, ◌==◌, ◌||◌, nat_lt, min, IsTrue}

-- a count rose, or stands at its last value
abbrev pub Rose : ℕ → ℕ → Type 0
Rose before after = IsTrue (nat_lt before after || after == 18446744073709551615)

-- the next number, or the last one again
abbrev pub one_more : ℕ → ℕ
one_more n = min (n + 1) 18446744073709551615
